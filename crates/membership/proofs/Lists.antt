-- Searching the values of a list in the pool from left to right: what is left to search decides.
-- Assumes nothing.
use mathlib.Core.Path.{◌≡◌, refl, sym, ◌∙◌, ap}
use mathlib.Core.Bool.{Bool, true, false, ◌||◌}
use mathlib.Core.List.{List, [], ◌∷◌, ◌++◌}
use Prim.Native.Nat.{ℕ, zero, suc, ◌+◌, ◌-◌, ◌<◌, ◌≤◌}
use native.Mathlib.Numerals.{add-one}
use native.Mathlib.Omega.{arith}
use lib.Dec.{eqb}
use borrow.Author.Tests.{ne_eqb}
use lib.IntN.{ℤ}
use mathlib.Core.Option.{Option, none, some}
use Rattle.records.specs.Bytes as bytes
use Rattle.truth.specs.Order.{Order, is_equal}
use Rattle.truth.specs.Halves.{ord_z, key}
use Rattle.truth.specs.FromBytes.{values_from}
use Rattle.truth.specs.Evaluate.{holds_key, member_truth}
use Rattle.truth.specs.Membership.{null_in3, known_in3}
use Rattle.membership.proofs.Memberships.{is_empty, in3-null, in3-known}

-- One value more, at the end.
pub values-more :
    (p : List ℕ) (start count : ℕ) →
    values_from p start (suc count) ≡ values_from p start count ++ (bytes.value_at p (start + count) ∷ [])
unfolding values_from
values-more p start zero = let e : start + 0 ≡ start = omega arith in rw e
values-more p start (suc count) =
    let e : suc start + count ≡ start + suc count = omega arith in
    ap (λ l. bytes.value_at p start ∷ l) (values-more p (suc start) count ∙ rw e)

list-step :
    (p : List ℕ) (k : ℤ) (i end : ℕ) → i < end →
    holds_key k (values_from p i (end - i)) ≡
    (is_equal (ord_z.cmp k (key (bytes.value_at p i))) || holds_key k (values_from p (suc i) (end - suc i)))
unfolding values_from
list-step p k i end h = let e : end - i ≡ suc (end - suc i) = omega arith in rw e

module _ (p : List ℕ) (k : ℤ) (i end : ℕ) (whole : Bool) (left : holds_key k (values_from p i (end - i)) ≡ whole) where
  pub list-more :
      i < end → is_equal (ord_z.cmp k (key (bytes.value_at p i))) ≡ false → holds_key k
      (values_from p (i + 1) (end - (i + 1))) ≡ whole
  list-more h e = rw (add-one i) (sym (list-step p k i end h ∙ rw e) ∙ left)

  pub list-found : i < end → is_equal (ord_z.cmp k (key (bytes.value_at p i))) ≡ true → true ≡ whole
  list-found h e = sym (list-step p k i end h ∙ rw e) ∙ left

  pub list_done : end ≤ i → false ≡ whole
  unfolding values_from
  list_done h = let e : end - i ≡ 0 = omega arith in (rw e at left)

pub list-start : (p : List ℕ) (k : ℤ) (start count : ℕ) → holds_key k (values_from p start (start + count - start)) ≡
    holds_key k (values_from p start count)
list-start p k start count = let e : start + count - start ≡ count = omega arith in rw e

-- The list rule, in the pool: a list without a value has count 0.
values-empty : (p : List ℕ) (start count : ℕ) → is_empty (values_from p start count) ≡ eqb count 0
unfolding values_from
values-empty p start zero = refl
values-empty p start (suc count) = sym (ne_eqb (suc count) 0 (λ e. omega (arith, e)))

pub member-null :
    (p : List ℕ) (start count : ℕ) (equal holds : Bool) →
    null_in3 equal holds (eqb count 0) ≡ member_truth equal holds (values_from p start count) none
member-null p start count equal holds =
    sym (in3-null key ord_z equal holds (values_from p start count) ∙
    ap (null_in3 equal holds) (values-empty p start count))

pub member-known :
    (p : List ℕ) (start count : ℕ) (equal holds : Bool) (k : ℤ) →
    known_in3 equal holds (holds_key k (values_from p start count)) ≡
    member_truth equal holds (values_from p start count) (some k)
member-known p start count equal holds k = sym (in3-known key ord_z equal holds (values_from p start count) k)
