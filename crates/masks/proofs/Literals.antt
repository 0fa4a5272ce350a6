-- A column against a literal: a word put together from its highest bit down, and what it tells.
-- Assumes nothing.
use mathlib.Core.Path.{◌≡◌, refl, sym, ◌∙◌, ap, subst}
use mathlib.Core.Bool.{Bool, true, false, cond, not, ◌&&◌, ◌||◌}
use mathlib.Core.List.{List}
use mathlib.Core.Option.{Option, none, some}
use Prim.Native.Nat.{ℕ, zero, suc, ◌+◌, ◌-◌, ◌*◌, ◌/◌, ◌%◌, ◌^◌, ◌≤◌, ◌<◌}
use native.Mathlib.Omega.{arith}
use native.Mathlib.Nat.{lt_of_lt_of_le}
use lib.Pow.{pow_mono}
use lib.Bits.{bit_and, bit_or, or_step, or_lt}
use lib.Dec.{ltb, leb, eqb}
use lib.IntN.{ℤ}
use lib.ListN.{get_or, take, drop}
use borrow.Author.Tests.{eqb-true, eqb-false}
use Rattle.records.specs.Bytes.{value_at}
use Rattle.records.proofs.Laws.{by-test}
use Rattle.checking.specs.Columns.{bit}
use Rattle.checking.proofs.Bits.{bit-zero}
use Rattle.three_valued.specs.Logic.{is_true, of_bool}
use Rattle.truth.specs.Comparison.{Eq, Lt}
use Rattle.truth.specs.Evaluate.{comparing, low_code, high_code, null_test}
use Rattle.truth.specs.FromBytes.{null_marked, row_keys}
use Rattle.truth.specs.Halves.{key, bias_of}
use Rattle.masks.specs.declared.Masks.{Masks}
use Rattle.masks.specs.Masks.{is_unknown, inverse, mask_to, Tells, KeyAt, is_key}
use Rattle.masks.specs.Block.{chain_value, cell_of, Wide, NullWord}
use Rattle.masks.proofs.Bits.{bit-and, bit-inverse, mask_bit}
use Rattle.masks.proofs.Blocks.{row-shown, value-end}
use Rattle.masks.proofs.Columns.{of_bool-known, less-pair, equal-pair}

-- ---- the word
mask_alike : (f g : ℕ → Bool) (n : ℕ) → ((j : ℕ) → f j ≡ g j) → mask_to f n ≡ mask_to g n
unfolding mask_to
mask_alike f g zero e = refl
mask_alike f g (suc n) e = rw (e n, mask_alike f g n e)

pub mask_within : (f : ℕ → Bool) (n : ℕ) → mask_to f n < 2 ^ n
unfolding mask_to
mask_within f zero = omega arith
mask_within f (suc n) = more (f n) (mask_within f n)
  where
    more : (b : Bool) → mask_to f n < 2 ^ n → cond b (bit_or (mask_to f n) (2 ^ n)) (mask_to f n) < 2 ^ suc n
    more true h = or_lt (suc n) (mask_to f n) (2 ^ n) (omega (arith, h)) (omega (arith, h))
    more false h = omega (arith, h)

low_bit : (c : Bool) → cond c 1 0 < 2
low_bit true = omega arith
low_bit false = omega arith

-- a bit above one more below
or_pushed : (m d n : ℕ) → d < 2 → bit_or (m * 2 + d) (2 ^ suc n) ≡ bit_or m (2 ^ n) * 2 + d
or_pushed m d n h =
    let e : (m * 2 + d) / 2 ≡ m = omega (arith, h) in
    let o : (m * 2 + d) % 2 ≡ d = omega (arith, h) in
    let p : 2 ^ suc n / 2 ≡ 2 ^ n = omega arith in
    let q : 2 ^ suc n % 2 ≡ 0 = omega arith in
    or_step (m * 2 + d) (2 ^ suc n) ∙ rw (e, o, p, q) (omega arith)

push_more : (b : Bool) (m d n : ℕ) → d < 2
    → cond b (bit_or m (2 ^ n)) m * 2 + d ≡ cond b (bit_or (m * 2 + d) (2 ^ suc n)) (m * 2 + d)
push_more true m d n h = sym (or_pushed m d n h)
push_more false m d n h = refl

first_bit : (b : Bool) → 0 * 2 + cond b 1 0 ≡ cond b (bit_or 0 (2 ^ 0)) 0
first_bit true = refl
first_bit false = refl

mask_push : (f : ℕ → Bool) (n : ℕ) → mask_to (λ (j : ℕ). f (suc j)) n * 2 + cond (f 0) 1 0 ≡ mask_to f (suc n)
unfolding mask_to
mask_push f zero = first_bit (f 0)
mask_push f (suc n) =
    push_more (f (suc n)) (mask_to (λ (j : ℕ). f (suc j)) n) (cond (f 0) 1 0) n (low_bit (f 0))
    ∙ ap (λ z. cond (f (suc n)) (bit_or z (2 ^ suc n)) z) (mask_push f n)

-- from row k down to row i
pub mask_down : (f : ℕ → Bool) (i k rows m r : ℕ) → i + 1 ≡ k → k ≤ rows → m ≡ mask_to (λ (j : ℕ). f (k + j)) (rows - k)
    → r ≡ m * 2 + cond (f i) 1 0 → r ≡ mask_to (λ (j : ℕ). f (i + j)) (rows - i)
mask_down f i k rows m r ek h em er =
    let e : suc (rows - k) ≡ rows - i = omega (arith, ek, h) in
    let s : (j : ℕ) → f (k + j) ≡ f (i + suc j) = λ j. ap f (omega (arith, ek)) in
    let z : i ≡ i + 0 = omega arith in
    er ∙ ap (λ x. x * 2 + cond (f i) 1 0) (em ∙ mask_alike (λ (j : ℕ). f (k + j)) (λ (j : ℕ). f (i + suc j)) (rows - k) s)
    ∙ ap (λ x. mask_to (λ (j : ℕ). f (i + suc j)) (rows - k) * 2 + cond (f x) 1 0) z
    ∙ mask_push (λ (j : ℕ). f (i + j)) (rows - k) ∙ ap (mask_to (λ (j : ℕ). f (i + j))) e

pub mask_start : (f : ℕ → Bool) (rows : ℕ) → 0 ≡ mask_to (λ (j : ℕ). f (rows + j)) (rows - rows)
unfolding mask_to
mask_start f rows = let e : 0 ≡ rows - rows = omega arith in subst (λ n. 0 ≡ mask_to (λ (j : ℕ). f (rows + j)) n) e refl

pub mask_whole : (f : ℕ → Bool) (i rows m : ℕ) → i ≡ 0 → m ≡ mask_to (λ (j : ℕ). f (i + j)) (rows - i) → m ≡ mask_to f rows
mask_whole f i rows m ei em =
    let e : rows - i ≡ rows = omega (arith, ei) in
    em ∙ mask_alike (λ (j : ℕ). f (i + j)) f (rows - i) (λ j. ap f (omega (arith, ei))) ∙ ap (mask_to f) e

-- there is room for one more bit
pub mask_room : (f : ℕ → Bool) (k rows m : ℕ) → 0 < k → rows ≤ 64 → m ≡ mask_to f (rows - k) → m < 9223372036854775808
mask_room f k rows m h few em =
    subst (λ z. z < 9223372036854775808) (sym em)
    (lt_of_lt_of_le (mask_within f (rows - k)) (pow_mono {i = rows - k} {j = 63} (omega (arith, h, few))))

-- ---- the cells
pub cell_end : (w c base i rows n : ℕ) → c < w → i < rows → 8 * w * (base + rows) ≤ n → 8 * (w * (base + i) + c) + 7 < n
cell_end w c base i rows n hc h l =
    let s : base + i < base + rows = omega (arith, h) in
    let e = value-end w c (base + i) (base + rows) hc s in
    let q : 8 * w * (base + rows) ≡ 8 * (w * (base + rows)) = omega arith in
    omega (arith, e, l, q)

pub cell_small : (w c base i rows : ℕ) → c < w → w ≤ 64 → i < rows → base + rows ≤ 1024 → w * (base + i) + c < 65536
cell_small w c base i rows hc hw h l =
    let s : base + i < 1024 = omega (arith, h, l) in
    let e = value-end w c (base + i) 1024 hc s in
    omega (arith, e, hw)

pub wide-none : (w : ℕ) (values : List ℕ) (c base rows : ℕ) → Wide w values c base rows rows
unfolding Wide
wide-none w values c base rows i h l = absurd (omega (arith, h, l))

pub wide-more : (w : ℕ) (values : List ℕ) (c base i k rows x : ℕ) → i + 1 ≡ k → x < 2 ^ 64
    → x ≡ value_at values (w * (base + i) + c) → Wide w values c base k rows → Wide w values c base i rows
unfolding Wide cell_of
wide-more w values c base i k rows x ek hx ex above j h l = by-test (eqb j i) same other
  where
    same : eqb j i ≡ true → value_at values (w * (base + j) + c) < 2 ^ 64
    same e = subst (λ z. value_at values (w * (base + z) + c) < 2 ^ 64) (sym (eqb-true j i e)) (subst (λ z. z < 2 ^ 64) ex hx)

    other : eqb j i ≡ false → value_at values (w * (base + j) + c) < 2 ^ 64
    other e = let d : (j ≡ i → ⊥) = eqb-false j i e in above j (omega (arith, d, h, ek)) l

pub wide-all : (w : ℕ) (values : List ℕ) (c base i rows : ℕ) → i ≡ 0 → Wide w values c base i rows → Wide w values c base 0 rows
wide-all w values c base i rows e s = subst (λ z. Wide w values c base z rows) e s

-- one more row, by any test of its key and the literal's
pub push_cell : (test : ℕ → ℕ → Bool) (w : ℕ) (values : List ℕ) (c base i k rows m r x kx kv v : ℕ) → i + 1 ≡ k → k ≤ rows
    → x ≡ value_at values (w * (base + i) + c) → kx ≡ bias_of x → kv ≡ bias_of v
    → m ≡ mask_to (λ (j : ℕ). test (bias_of (cell_of w values c base (k + j))) (bias_of v)) (rows - k)
    → r ≡ m * 2 + cond (test kx kv) 1 0
    → r ≡ mask_to (λ (j : ℕ). test (bias_of (cell_of w values c base (i + j))) (bias_of v)) (rows - i)
unfolding cell_of
push_cell test w values c base i k rows m r x kx kv v ek h ex ekx ekv em er =
    mask_down (λ (j : ℕ). test (bias_of (value_at values (w * (base + j) + c))) (bias_of v)) i k rows m r ek h em
    (er ∙ ap (λ k. m * 2 + cond (test k kv) 1 0) (ekx ∙ ap bias_of ex)
    ∙ ap (λ k. m * 2 + cond (test (bias_of (value_at values (w * (base + i) + c))) k) 1 0) ekv)

-- ---- what the word tells
literal-key : (v : ℕ) → v < 2 ^ 64 → KeyAt false (bias_of v) (some (key v))
literal-key v h = is_key v h refl refl refl

module _ (w : ℕ) (values : List ℕ) (c base rows nulls v : ℕ) (hc : c < w) (few : rows ≤ 64) (hv : v < 2 ^ 64)
    (wide : Wide w values c base 0 rows) (r : Masks) (m inv : ℕ) (ei : inv ≡ inverse nulls) (et : r.truths ≡ bit_and m inv)
    (eu : r.unknowns ≡ nulls) (chain : List ℕ) (marks : NullWord chain c base rows nulls) where
  abbrev value_of : ℕ → Option ℤ
  value_of i = chain_value w values chain c (base + i)

  cell_key : (i : ℕ) → i < 64 → i < rows → KeyAt (bit nulls i) (bias_of (cell_of w values c base i)) (value_of i)
  unfolding Wide NullWord cell_of
  cell_key i h k =
      subst (λ b. KeyAt b (bias_of (value_at values (w * (base + i) + c))) (value_of i)) (sym (marks i h k))
      (row-shown w (base + i) c values chain _ _ hc (wide i (omega arith) k) refl refl)

  marked-bit : (f : ℕ → Bool) → m ≡ mask_to f rows → (i : ℕ) → i < 64 → i < rows
      → bit r.truths i ≡ (f i && not (bit nulls i))
  marked-bit f em i h k =
      ap (λ z. bit z i) et ∙ bit-and m inv i ∙ rw (em, mask_bit f rows i k, ei, bit-inverse nulls i h)

  or_none : (b : Bool) → (b || false) ≡ b
  or_none true = refl
  or_none false = refl

  pub less-literal_tells : m ≡ mask_to (λ (i : ℕ). ltb (bias_of (cell_of w values c base i)) (bias_of v)) rows
      → Tells rows r (λ i. comparing Lt (value_of i) (some (key v)))
  unfolding Tells
  less-literal_tells em i h k =
      let q = less-pair (bit nulls i) (bias_of (cell_of w values c base i)) (value_of i) false (bias_of v) (some (key v))
      (cell_key i h k) (literal-key v hv) in
      let n = or_none (bit nulls i) in (
        marked-bit (λ (i : ℕ). ltb (bias_of (cell_of w values c base i)) (bias_of v)) em i h k
            ∙ ap (λ b. ltb (bias_of (cell_of w values c base i)) (bias_of v) && not b) (sym n) ∙ q.0,
        ap (λ z. bit z i) eu ∙ sym n ∙ q.1,
      )

  pub more_literal_tells : m ≡ mask_to (λ (i : ℕ). ltb (bias_of v) (bias_of (cell_of w values c base i))) rows
      → Tells rows r (λ i. comparing Lt (some (key v)) (value_of i))
  unfolding Tells
  more_literal_tells em i h k =
      let q = less-pair false (bias_of v) (some (key v)) (bit nulls i) (bias_of (cell_of w values c base i)) (value_of i)
      (literal-key v hv) (cell_key i h k) in (
        marked-bit (λ (i : ℕ). ltb (bias_of v) (bias_of (cell_of w values c base i))) em i h k ∙ q.0,
        ap (λ z. bit z i) eu ∙ q.1,
      )

  pub equal-literal_tells : m ≡ mask_to (λ (i : ℕ). eqb (bias_of (cell_of w values c base i)) (bias_of v)) rows
      → Tells rows r (λ i. comparing Eq (value_of i) (some (key v)))
  unfolding Tells
  equal-literal_tells em i h k =
      let q = equal-pair (bit nulls i) (bias_of (cell_of w values c base i)) (value_of i) false (bias_of v) (some (key v))
      (cell_key i h k) (literal-key v hv) in
      let n = or_none (bit nulls i) in (
        marked-bit (λ (i : ℕ). eqb (bias_of (cell_of w values c base i)) (bias_of v)) em i h k
            ∙ ap (λ b. eqb (bias_of (cell_of w values c base i)) (bias_of v) && not b) (sym n) ∙ q.0,
        ap (λ z. bit z i) eu ∙ sym n ∙ q.1,
      )

-- ---- a range, and the test of null
pub low-code_plain : (code k : ℕ) → k ≡ low_code code → (k ≡ 1 → ⊥) × (k ≡ 3 → ⊥)
unfolding low_code
low-code_plain code k e = plain (leb code 1) e
  where
    plain : (b : Bool) → k ≡ cond b 7 6 → (k ≡ 1 → ⊥) × (k ≡ 3 → ⊥)
    plain true e = (λ z. omega (arith, e, z), λ z. omega (arith, e, z))
    plain false e = (λ z. omega (arith, e, z), λ z. omega (arith, e, z))

pub high-code_plain : (code k : ℕ) → k ≡ high_code code → (k ≡ 1 → ⊥) × (k ≡ 3 → ⊥)
unfolding high_code
high-code_plain code k e = plain (eqb code 0 || eqb code 2) e
  where
    plain : (b : Bool) → k ≡ cond b 5 4 → (k ≡ 1 → ⊥) × (k ≡ 3 → ⊥)
    plain true e = (λ z. omega (arith, e, z), λ z. omega (arith, e, z))
    plain false e = (λ z. omega (arith, e, z), λ z. omega (arith, e, z))

null_of : (b : Bool) (k : ℤ) → null_test (cond b none (some k)) ≡ b
null_of true k = refl
null_of false k = refl

true_of : (b : Bool) → b ≡ is_true (of_bool b)
true_of true = refl
true_of false = refl

pub null_tells : (w : ℕ) (values chain : List ℕ) (c base rows nulls : ℕ) → NullWord chain c base rows nulls → (r : Masks)
    → r.truths ≡ nulls → r.unknowns ≡ 0 → Tells rows r (λ i. of_bool (null_test (chain_value w values chain c (base + i))))
unfolding NullWord Tells chain_value row_keys
null_tells w values chain c base rows nulls marks r et eu i h k =
    let b = null_marked (get_or chain (base + i) 0) c in
    let e = null_of b (key (value_at (take (8 * w) (drop (8 * w * (base + i)) values)) c)) in (
      ap (λ z. bit z i) et ∙ marks i h k ∙ true_of b ∙ ap (λ z. is_true (of_bool z)) (sym e),
      ap (λ z. bit z i) eu ∙ bit-zero i ∙ of_bool-known b ∙ ap (λ z. is_unknown (of_bool z)) (sym e),
    )
