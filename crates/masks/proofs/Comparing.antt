-- The operators by their codes: what is told of two columns tells what each operator says of them.
-- Assumes nothing.
use mathlib.Core.Path.{◌≡◌, refl, sym, ◌∙◌, ap, subst}
use mathlib.Core.Bool.{Bool, true, false, cond, not, ◌&&◌, ◌||◌, and-false}
use mathlib.Core.List.{List}
use mathlib.Core.Option.{Option, none, some}
use Prim.Native.Nat.{ℕ, ◌+◌, ◌≤◌, ◌<◌}
use native.Mathlib.Omega.{arith}
use lib.Bits.{bit_and, bit_or}
use lib.Dec.{leb, eqb}
use lib.IntN.{ℤ}
use lib.ListN.{get_or}
use borrow.Author.Tests.{ne_eqb}
use Rattle.checking.specs.Columns.{bit}
use Rattle.checking.proofs.Bits.{bit-or, bit-zero}
use Rattle.three_valued.specs.declared.logic.Truth.{Truth}
use Rattle.std.specs.declared.cmp.Ordering.{Ordering}
use Rattle.truth.specs.Order.{View, less_view, equal_view, greater_view, is_less, is_equal, is_greater}
use Rattle.truth.specs.Comparison.{Eq, Lt, Gt}
use Rattle.truth.specs.Halves.{ord_z, key}
use Rattle.truth.specs.Evaluate.{comparing, same, null_test, comparison_at, compared_of, connected_of, between_of, low_code, high_code}
use Rattle.truth.specs.Evaluate.{to_truth}
use Rattle.truth.specs.FromBytes.{truth_keys}
use Rattle.three_valued.specs.Logic.{and3, or3, xor3, not3, is_true, of_bool}
use Rattle.truth.proofs.Orders.{cmp-lt, cmp-gt, cmp-eq, total-z}
use Rattle.truth.proofs.Negations.{compare-negate, not-of}
use Rattle.masks.specs.declared.Masks.{Masks}
use Rattle.masks.specs.Masks.{is_unknown, inverse, mask_to, Tells, KeyAt, is_null, is_key, Shown}
use Rattle.masks.proofs.Bits.{bit-and, bit-inverse, mask_bit}
use Rattle.masks.proofs.Columns.{order, order-tests, of_bool-known}

-- ---- the same truths, the same values, the same keys
pub tells-same : (rows : ℕ) (m : Masks) (f g : ℕ → Truth) → ((i : ℕ) → i < rows → f i ≡ g i) → Tells rows m f → Tells rows m g
unfolding Tells
tells-same rows m f g e t i h k =
    subst (λ x. (bit m.truths i ≡ is_true x) × (bit m.unknowns i ≡ is_unknown x)) (e i k) (t i h k)

pub shown-same : (rows : ℕ) (keys : List ℕ) (at nulls : ℕ) (v w : ℕ → Option ℤ) → ((i : ℕ) → i < rows → v i ≡ w i)
    → Shown rows keys at nulls v → Shown rows keys at nulls w
unfolding Shown
shown-same rows keys at nulls v w e s i h k = subst (λ x. KeyAt (bit nulls i) (get_or keys (at + i) 0) x) (e i k) (s i h k)

pub shown-kept : (rows : ℕ) (old keys : List ℕ) (at end nulls : ℕ) (v : ℕ → Option ℤ) → at + 64 ≤ end
    → ((j : ℕ) → j < end → get_or keys j 0 ≡ get_or old j 0) → Shown rows old at nulls v → Shown rows keys at nulls v
unfolding Shown
shown-kept rows old keys at end nulls v room kept s i h k =
    subst (λ x. KeyAt (bit nulls i) x (v i)) (sym (kept (at + i) (omega (arith, room, h)))) (s i h k)

-- ---- EqValidity
found-same : (t : Bool) → ((t && true) || false) ≡ is_true (of_bool t)
found-same true = refl
found-same false = refl

same-pair : (n : Bool) (k : ℕ) (v : Option ℤ) (n' : Bool) (k' : ℕ) (v' : Option ℤ) → KeyAt n k v → KeyAt n' k' v'
    → ((eqb k k' && not (n || n')) || (n && n')) ≡ is_true (of_bool (same v v'))
same-pair n k v n' k' v' (is_null e ev) (is_null e' ev') = rw (e, ev, e', ev') (ap (λ z. z || true) (and-false (eqb k k')))
same-pair n k v n' k' v' (is_null e ev) (is_key bits' h' e' ek' ev') =
    rw (e, ev, e', ev') (ap (λ z. z || false) (and-false (eqb k k')))
same-pair n k v n' k' v' (is_key bits h e ek ev) (is_null e' ev') =
    rw (e, ev, e', ev') (ap (λ z. z || false) (and-false (eqb k k')))
same-pair n k v n' k' v' (is_key bits h e ek ev) (is_key bits' h' e' ek' ev') =
    rw (e, ek, ev, e', ek', ev', (order-tests bits bits' h h').1) (found-same (is_equal (order bits bits')))

module _ (rows : ℕ) (keys : List ℕ) (at nulls other others : ℕ) (value second : ℕ → Option ℤ)
    (shown : Shown rows keys at nulls value) (shown' : Shown rows keys other others second) (r : Masks) (m inv : ℕ)
    (ei : inv ≡ inverse (bit_or nulls others)) (et : r.truths ≡ bit_or (bit_and m inv) (bit_and nulls others))
    (eu : r.unknowns ≡ 0) where
  pub same-columns_tell : m ≡ mask_to (λ (i : ℕ). eqb (get_or keys (at + i) 0) (get_or keys (other + i) 0)) 64
      → Tells rows r (λ i. of_bool (same (value i) (second i)))
  unfolding Tells Shown
  same-columns_tell em i h k = (
    ap (λ z. bit z i) et ∙ bit-or (bit_and m inv) (bit_and nulls others) i
        ∙ rw (
          bit-and m inv i,
          bit-and nulls others i,
          em,
          mask_bit (λ (i : ℕ). eqb (get_or keys (at + i) 0) (get_or keys (other + i) 0)) 64 i h,
          ei,
          bit-inverse (bit_or nulls others) i h,
          bit-or nulls others i,
        )
        (same-pair (bit nulls i) (get_or keys (at + i) 0) (value i) (bit others i) (get_or keys (other + i) 0) (second i)
        (shown i h k) (shown' i h k)),
    ap (λ z. bit z i) eu ∙ bit-zero i ∙ of_bool-known (same (value i) (second i)),
  )

-- ---- turned round
flip_cmp : (a b : ℤ) → is_greater (ord_z.cmp a b) ≡ is_less (ord_z.cmp b a)
flip_cmp a b = go (total-z.view a b)
  where
    go : {o : Ordering} → View ord_z.less a b o → is_greater o ≡ is_less (ord_z.cmp b a)
    go (less_view k) = ap is_less (sym (cmp-gt total-z {a = b} {b = a} k))
    go (equal_view e) = ap is_less (sym (cmp-eq total-z {a = b} {b = a} (sym e)))
    go (greater_view k) = ap is_less (sym (cmp-lt total-z {a = b} {b = a} k))

flip : (x y : Option ℤ) → comparing Lt y x ≡ comparing Gt x y
flip none none = refl
flip none (some b) = refl
flip (some a) none = refl
flip (some a) (some b) = ap of_bool (sym (flip_cmp a b))

-- ---- the codes
module _ (code : ℕ) (x y : Option ℤ) where
  pub code-0 : code ≡ 0 → comparing Eq x y ≡ compared_of code x y
  unfolding compared_of comparison_at
  code-0 e = rw e

  pub code-1 : code ≡ 1 → of_bool (same x y) ≡ compared_of code x y
  unfolding compared_of comparison_at
  code-1 e = rw e

  pub code-2 : code ≡ 2 → not3 (comparing Eq x y) ≡ compared_of code x y
  unfolding compared_of comparison_at
  code-2 e = rw e (sym (compare-negate key ord_z truth_keys Eq x y))

  pub code-3 : code ≡ 3 → not3 (of_bool (same x y)) ≡ compared_of code x y
  unfolding compared_of comparison_at
  code-3 e = rw e (sym (not-of (same x y)))

  pub code-4 : code ≡ 4 → comparing Lt x y ≡ compared_of code x y
  unfolding compared_of comparison_at
  code-4 e = rw e

  pub code-5 : code ≡ 5 → not3 (comparing Lt y x) ≡ compared_of code x y
  unfolding compared_of comparison_at
  code-5 e = rw e (ap not3 (flip x y) ∙ sym (compare-negate key ord_z truth_keys Gt x y))

  pub code-6 : code ≡ 6 → comparing Lt y x ≡ compared_of code x y
  unfolding compared_of comparison_at
  code-6 e = rw e (flip x y)

  pub code-7 : (code ≡ 0 → ⊥) → (code ≡ 1 → ⊥) → (code ≡ 2 → ⊥) → (code ≡ 3 → ⊥) → (code ≡ 4 → ⊥) → (code ≡ 5 → ⊥)
      → (code ≡ 6 → ⊥) → not3 (comparing Lt x y) ≡ compared_of code x y
  unfolding compared_of comparison_at
  code-7 n0 n1 n2 n3 n4 n5 n6 =
      rw (
        ne_eqb code 0 n0,
        ne_eqb code 1 n1,
        ne_eqb code 2 n2,
        ne_eqb code 3 n3,
        ne_eqb code 4 n4,
        ne_eqb code 5 n5,
        ne_eqb code 6 n6,
      )
      (sym (compare-negate key ord_z truth_keys Lt x y))

  low-compared : compared_of (low_code code) x y ≡ comparing (comparison_at (low_code code)) x y
  unfolding compared_of comparison_at low_code
  low-compared = go (leb code 1)
    where
      go : (b : Bool) → compared_of (cond b 7 6) x y ≡ comparing (comparison_at (cond b 7 6)) x y
      go true = refl
      go false = refl

  high-compared : compared_of (high_code code) x y ≡ comparing (comparison_at (high_code code)) x y
  unfolding compared_of comparison_at high_code
  high-compared = go (eqb code 0 || eqb code 2)
    where
      go : (b : Bool) → compared_of (cond b 5 4) x y ≡ comparing (comparison_at (cond b 5 4)) x y
      go true = refl
      go false = refl

pub low-above : (code l : ℕ) → l ≡ low_code code → 3 < l
unfolding low_code
low-above code l e = go (leb code 1) e
  where
    go : (b : Bool) → l ≡ cond b 7 6 → 3 < l
    go true e = omega (arith, e)
    go false e = omega (arith, e)

pub high-above : (code h : ℕ) → h ≡ high_code code → 3 < h
unfolding high_code
high-above code h e = go (eqb code 0 || eqb code 2) e
  where
    go : (b : Bool) → h ≡ cond b 5 4 → 3 < h
    go true e = omega (arith, e)
    go false e = omega (arith, e)

pub between-compared : (code l h : ℕ) (x low high : Option ℤ) → l ≡ low_code code → h ≡ high_code code
    → and3 (compared_of l x low) (compared_of h x high) ≡ between_of code x low high
unfolding between_of
between-compared code l h x low high el eh = rw (el, eh, low-compared code x low, high-compared code x high)

module _ (code : ℕ) (a b : Truth) where
  pub code-15 : code ≡ 15 → and3 a b ≡ connected_of code a b
  unfolding connected_of
  code-15 e = rw e

  pub code-16 : code ≡ 16 → or3 a b ≡ connected_of code a b
  unfolding connected_of
  code-16 e = rw e

  pub code-17 : code ≡ 17 → xor3 a b ≡ connected_of code a b
  unfolding connected_of
  code-17 e = rw e

  pub code-18 : code ≡ 18 → and3 a b ≡ connected_of code a b
  unfolding connected_of
  code-18 e = rw e

  pub code-19 : (code ≡ 15 → ⊥) → (code ≡ 16 → ⊥) → (code ≡ 17 → ⊥) → (code ≡ 18 → ⊥) → or3 a b ≡ connected_of code a b
  unfolding connected_of
  code-19 n15 n16 n17 n18 = rw (ne_eqb code 15 n15, ne_eqb code 16 n16, ne_eqb code 17 n17, ne_eqb code 18 n18)

-- ---- a null word, and a value as a truth
null_row : (n : Bool) (k : ℕ) (v : Option ℤ) → KeyAt n k v → n ≡ is_true (of_bool (null_test v))
null_row n k v (is_null e ev) = rw (e, ev)
null_row n k v (is_key bits h e ek ev) = rw (e, ev)

pub null_tells : (rows : ℕ) (keys : List ℕ) (at nulls : ℕ) (v : ℕ → Option ℤ) (r : Masks) → r.truths ≡ nulls
    → r.unknowns ≡ 0 → Shown rows keys at nulls v → Tells rows r (λ i. of_bool (null_test (v i)))
unfolding Tells Shown
null_tells rows keys at nulls v r et eu s i h k = (
  ap (λ z. bit z i) et ∙ null_row (bit nulls i) (get_or keys (at + i) 0) (v i) (s i h k),
  ap (λ z. bit z i) eu ∙ bit-zero i ∙ of_bool-known (null_test (v i)),
)

pub truth-compared : (x : Option ℤ) → comparing Eq x (some (key 1)) ≡ to_truth x
truth-compared none = refl
truth-compared (some a) = refl
