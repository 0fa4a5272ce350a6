-- A column of a block is filled row by row.
-- Assumes nothing.
use mathlib.Core.Path.{◌≡◌, refl, sym, ◌∙◌, ap, subst}
use mathlib.Core.Bool.{Bool, true, false, cond}
use mathlib.Core.List.{List}
use mathlib.Core.Option.{Option, none, some}
use Prim.Native.Nat.{ℕ, suc, ◌+◌, ◌*◌, ◌^◌, ◌≤◌, ◌<◌}
use native.Mathlib.Omega.{arith}
use native.Mathlib.Nat.{mul-le-mul}
use lib.Dec.{eqb}
use lib.IntN.{ℤ}
use lib.ListN.{length, get_or, set, take, drop}
use lib.Seq.{get_or-set_same, get_or-set_other, get_or-take, get_or-drop}
use borrow.Author.Tests.{eqb-true, eqb-false}
use Rattle.records.specs.Bytes.{word, value_at}
use Rattle.records.proofs.Laws.{by-test}
use Rattle.checking.specs.Columns.{bit}
use Rattle.truth.specs.Halves.{key, bias_of}
use Rattle.truth.specs.FromBytes.{null_marked, row_keys}
use Rattle.masks.specs.Masks.{mask_to, KeyAt, is_null, is_key, Shown}
use Rattle.masks.specs.Block.{chain_value}
use lib.Bits.{bit_or}
use Rattle.masks.proofs.Bits.{mask_bit, mask_more}

-- value c of row r lies within n rows
pub value-end : (w c r n : ℕ) → c < w → r < n → w * r + c + 1 ≤ w * n
value-end w c r n hc hr =
    let s : w ≤ w = omega arith in
    let e : w * r + w ≡ w * suc r = omega arith in
    let m : w * suc r ≤ w * n = mul-le-mul s hr in
    omega (arith, e, m, hc)

byte_of : (w d j : ℕ) (l : List ℕ) → j < w → get_or (take w (drop d l)) j 0 ≡ get_or l (d + j) 0
byte_of w d j l h = get_or-take w (drop d l) j 0 h ∙ get_or-drop d l j 0

word_of : (w d j : ℕ) (l : List ℕ) → j + 4 ≤ w → word (take w (drop d l)) j ≡ word l (d + j)
unfolding word
word_of w d j l h =
    let e1 : d + (j + 1) ≡ d + j + 1 = omega arith in
    let e2 : d + (j + 2) ≡ d + j + 2 = omega arith in
    let e3 : d + (j + 3) ≡ d + j + 3 = omega arith in
    rw (
      byte_of w d j l (omega arith),
      byte_of w d (j + 1) l (omega arith),
      byte_of w d (j + 2) l (omega arith),
      byte_of w d (j + 3) l (omega arith),
      e1,
      e2,
      e3,
    )

-- the row's value is the chain's
pub value_of : (w r c : ℕ) (l : List ℕ) → c < w → value_at (take (8 * w) (drop (8 * w * r) l)) c ≡ value_at l (w * r + c)
unfolding value_at
value_of w r c l h =
    let e : 8 * w * r + 8 * c ≡ 8 * (w * r + c) = omega arith in
    let g : 8 * w * r + (8 * c + 4) ≡ 8 * (w * r + c) + 4 = omega arith in
    rw (word_of (8 * w) (8 * w * r) (8 * c) l (omega arith), word_of (8 * w) (8 * w * r) (8 * c + 4) l (omega arith), e, g)

-- the key and the mark of one row show its value
pub row-shown : (w r c : ℕ) (values nulls : List ℕ) (k v : ℕ) → c < w → v < 2 ^ 64 → v ≡ value_at values (w * r + c)
    → k ≡ bias_of v → KeyAt (null_marked (get_or nulls r 0) c) k (chain_value w values nulls c r)
unfolding chain_value row_keys
row-shown w r c values nulls k v hc hv ev ek = by-test (null_marked (get_or nulls r 0) c) marked known
  where
    marked : null_marked (get_or nulls r 0) c ≡ true
        → KeyAt (null_marked (get_or nulls r 0) c) k
        (cond (null_marked (get_or nulls r 0) c) none (some (key (value_at (take (8 * w) (drop (8 * w * r) values)) c))))
    marked e = is_null e (rw e)

    known : null_marked (get_or nulls r 0) c ≡ false
        → KeyAt (null_marked (get_or nulls r 0) c) k
        (cond (null_marked (get_or nulls r 0) c) none (some (key (value_at (take (8 * w) (drop (8 * w * r) values)) c))))
    known e = is_key v hv e ek (rw (e, value_of w r c values hc, ← ev))

-- the rows below n are shown, each with its own mark
unfoldable pub ShownTo : (ℕ → Bool) → (ℕ → Option ℤ) → List ℕ → ℕ → ℕ → Type 0
ShownTo marks value keys at n = (i : ℕ) → i < n → KeyAt (marks i) (get_or keys (at + i) 0) (value i)

pub shown-none : (marks : ℕ → Bool) (value : ℕ → Option ℤ) (keys : List ℕ) (at : ℕ) → ShownTo marks value keys at 0
unfolding ShownTo
shown-none marks value keys at i h = absurd (omega arith)

pub shown-more : (marks : ℕ → Bool) (value : ℕ → Option ℤ) (keys : List ℕ) (at n k : ℕ) → at + n < length keys
    → ShownTo marks value keys at n → KeyAt (marks n) k (value n) → ShownTo marks value (set keys (at + n) k) at (n + 1)
unfolding ShownTo
shown-more marks value keys at n k room s new i h = by-test (eqb i n) same other
  where
    same : eqb i n ≡ true → KeyAt (marks i) (get_or (set keys (at + n) k) (at + i) 0) (value i)
    same e =
        subst (λ j. KeyAt (marks j) (get_or (set keys (at + n) k) (at + j) 0) (value j)) (sym (eqb-true i n e))
        (subst (λ x. KeyAt (marks n) x (value n)) (sym (get_or-set_same keys (at + n) k 0 room)) new)

    other : eqb i n ≡ false → KeyAt (marks i) (get_or (set keys (at + n) k) (at + i) 0) (value i)
    other e =
        let d : (i ≡ n → ⊥) = eqb-false i n e in
        let q : (at + i ≡ at + n → ⊥) = λ z. d (omega (arith, z)) in
        subst (λ x. KeyAt (marks i) x (value i)) (sym (get_or-set_other keys (at + n) (at + i) k 0 q)) (s i (omega (arith, d)))

-- what stands before `at` stays
unfoldable pub KeptBelow : List ℕ → List ℕ → ℕ → Type 0
KeptBelow old keys at = (j : ℕ) → j < at → get_or keys j 0 ≡ get_or old j 0

pub kept-all : (l : List ℕ) (at : ℕ) → KeptBelow l l at
unfolding KeptBelow
kept-all l at j h = refl

pub kept_more : (old keys : List ℕ) (at n k : ℕ) → KeptBelow old keys at → KeptBelow old (set keys (at + n) k) at
unfolding KeptBelow
kept_more old keys at n k s j h =
    get_or-set_other keys (at + n) j k 0 (λ z. omega (arith, h, z)) ∙ s j h

pub kept-told : (old keys : List ℕ) (at : ℕ) → KeptBelow old keys at → (j : ℕ) → j < at → get_or keys j 0 ≡ get_or old j 0
unfolding KeptBelow
kept-told old keys at s = s

pub shown-done : (marks : ℕ → Bool) (value : ℕ → Option ℤ) (keys : List ℕ) (at i n m : ℕ) → i ≡ n → m ≡ mask_to marks i
    → ShownTo marks value keys at i → Shown n keys at m value
unfolding ShownTo Shown
shown-done marks value keys at i n m e em s j h k =
    let l : j < i = omega (arith, e, k) in
    subst (λ b. KeyAt b (get_or keys (at + j) 0) (value j)) (sym (ap (λ z. bit z j) em ∙ mask_bit marks i j l)) (s j l)

-- one more mark
pub mark_more : (f : ℕ → Bool) (i m r : ℕ) (b : Bool) → b ≡ f i → m ≡ mask_to f i → r ≡ cond b (bit_or m (2 ^ i)) m
    → r ≡ mask_to f (i + 1)
mark_more f i m r b eb em er = mask_more f i m r em (er ∙ ap (λ z. cond z (bit_or m (2 ^ i)) m) eb)
