-- What is read of an input: its rows, its keys, and when its truth and its value are each other's.
-- Assumes nothing.
use mathlib.Core.Path.{◌≡◌, sym, ◌∙◌, subst}
use mathlib.Core.Bool.{true, false}
use mathlib.Core.List.{List}
use mathlib.Core.Option.{Option}
use Prim.Native.Nat.{ℕ, suc, ◌+◌, ◌-◌, ◌*◌, ◌≤◌, ◌<◌}
use native.Mathlib.Omega.{arith}
use native.Mathlib.Nat.{mul-le-mul}
use lib.Dec.{eqb}
use lib.IntN.{ℤ}
use lib.ListN.{length, get_or, set, take, drop}
use lib.Seq.{get_or-set_same, get_or-set_other}
use borrow.Author.Tests.{eqb-true, eqb-false}
use Rattle.records.proofs.Laws.{by-test}
use Rattle.truth.specs.Evaluate.{row_value, null_test, Evaluable}
use Rattle.masks.specs.Masks.{KeyAt}
use Rattle.masks.specs.Block.{chain_row, chain_worth, Ready}

-- ---- keys that are filled
unfoldable pub KeysTo : (ℕ → ℕ) → List ℕ → ℕ → ℕ → Type 0
KeysTo f keys at n = (i : ℕ) → i < n → get_or keys (at + i) 0 ≡ f i

pub keys_none : (f : ℕ → ℕ) (keys : List ℕ) (at : ℕ) → KeysTo f keys at 0
unfolding KeysTo
keys_none f keys at i h = absurd (omega arith)

pub keys_more : (f : ℕ → ℕ) (keys : List ℕ) (at n k : ℕ) → at + n < length keys → KeysTo f keys at n → k ≡ f n
    → KeysTo f (set keys (at + n) k) at (n + 1)
unfolding KeysTo
keys_more f keys at n k room s new i h = by-test (eqb i n) same other
  where
    same : eqb i n ≡ true → get_or (set keys (at + n) k) (at + i) 0 ≡ f i
    same e =
        subst (λ j. get_or (set keys (at + n) k) (at + j) 0 ≡ f j) (sym (eqb-true i n e))
        (get_or-set_same keys (at + n) k 0 room ∙ new)

    other : eqb i n ≡ false → get_or (set keys (at + n) k) (at + i) 0 ≡ f i
    other e =
        let d : (i ≡ n → ⊥) = eqb-false i n e in
        let q : (at + i ≡ at + n → ⊥) = λ z. d (omega (arith, z)) in
        get_or-set_other keys (at + n) (at + i) k 0 q ∙ s i (omega (arith, d))

pub keys_done : (f : ℕ → ℕ) (keys : List ℕ) (at n m : ℕ) → n ≡ m → KeysTo f keys at n
    → (i : ℕ) → i < m → get_or keys (at + i) 0 ≡ f i
unfolding KeysTo
keys_done f keys at n m e s i h = s i (omega (arith, e, h))

-- ---- a row at a time
module _ (rs p : List ℕ) (columns : ℕ) (values nulls : List ℕ) (base rows n : ℕ)
    (ok : Ready rs p columns values nulls base rows n) (i : ℕ) (h : i < rows) where
  -- a row lies within the values
  pub row-end : (8 * columns * (base + i) + 8 * columns ≤ length values) × (length values ≤ 524288)
  row-end =
      let w = ok.within in
      let s : 8 * columns ≤ 8 * columns = omega arith in
      let l : suc (base + i) ≤ length nulls = omega (arith, w, h) in
      let e : 8 * columns * (base + i) + 8 * columns ≡ 8 * columns * suc (base + i) = omega arith in
      let m : 8 * columns * suc (base + i) ≤ 8 * columns * length nulls = mul-le-mul s l in
      let c : 8 * columns ≤ 512 = let k = ok.narrow in omega (arith, k) in
      let g : 8 * columns * length nulls ≤ 512 * 1024 = mul-le-mul c ok.short in
      let q = ok.long in (omega (arith, e, m, q), omega (arith, g, q))

  pub row-ready : (w s e : ℕ) → w ≡ 8 * columns → s ≡ w * (base + i) → e ≡ s + w
      → Evaluable rs p (take (e - s) (drop s values)) n
  unfolding chain_row
  row-ready w s e ew es ee =
      let k = ok.within in
      let d : e - s ≡ w = omega (arith, ee) in
      rw (d, es, ew) (ok.evaluable (base + i) (omega (arith, k, h)))

pub worth_row : (rs p : List ℕ) (columns : ℕ) (values nulls : List ℕ) (n r w s e : ℕ) → w ≡ 8 * columns → s ≡ w * r → e ≡ s + w
    → {x : Option ℤ} → x ≡ row_value rs p (take (e - s) (drop s values)) (get_or nulls r 0) n
    → x ≡ chain_worth rs p columns values nulls n r
unfolding chain_worth chain_row
worth_row rs p columns values nulls n r w s e ew es ee ex =
    let d : e - s ≡ w = omega (arith, ee) in ex ∙ rw (d, es, ew)

pub key-worth : (k : ℕ) (x y : Option ℤ) → x ≡ y → KeyAt (null_test x) k x → KeyAt (null_test y) k y
key-worth k x y e s = subst (λ z. KeyAt (null_test z) k z) e s
