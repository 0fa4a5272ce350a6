-- The order of a place and a literal: whole parts first, then the half against 0.
-- Assumes nothing.
use mathlib.Core.Path.{◌≡◌, sym, ◌∙◌, ap, subst}
use Prim.Native.Nat.{ℕ, zero, suc}
use native.Mathlib.Omega.{arith}
use lib.IntN.{ℤ, pos, negsuc, suc_ℤ, pred_ℤ, ◌+ℤ◌, +ℤ_one, -ℤ_one, +ℤ_idr}
use mir.Syntax.{w64}
use mir.Val.{to_z}
use Rattle.truth.specs.Order.{View, less_view, equal_view, greater_view}
use Rattle.truth.specs.Halves.{less_z, cmp_z, ord_z, twice, key}
use Rattle.std.specs.declared.cmp.Ordering.{Ordering}
use Rattle.std.specs.Ordering.{ordering_then}
use Rattle.truth.proofs.Orders.{cmp-lt, cmp-gt, cmp-eq, total-z}
use Rattle.truth.proofs.HalfPoints.{suc-above, pred_below, half_below}
use Rattle.places.specs.declared.place.Half.{Half}
use Rattle.places.specs.declared.place.Half.TheVariants.{Minus, Zero, Plus}
use Rattle.places.specs.Held.{half_in, key_in, half_order}

pub minus_one : (a : ℤ) → a +ℤ negsuc 0 ≡ pred_ℤ a
minus_one a = -ℤ_one a

-- Between two neighbouring whole numbers there is one half, seen from above.
above-pred : (x y : ℤ) → less_z (suc_ℤ x) y → less_z x (pred_ℤ y)
above-pred (pos m) (pos zero) h = absurd (omega (arith, h))
above-pred (pos m) (pos (suc n)) h = omega (arith, h)
above-pred (pos m) (negsuc n) h = absurd h
above-pred (negsuc zero) (pos zero) h = absurd (omega (arith, h))
above-pred (negsuc zero) (pos (suc n)) h = tt
above-pred (negsuc zero) (negsuc n) h = absurd h
above-pred (negsuc (suc m)) (pos zero) h = omega arith
above-pred (negsuc (suc m)) (pos (suc n)) h = tt
above-pred (negsuc (suc m)) (negsuc n) h = omega (arith, h)

-- What the order of the whole parts and the half part say.
abbrev pub whole_first : Ordering → Half → Ordering
whole_first o half = ordering_then o (half_order half)

module _ (a b : ℤ) where
  less : (h : Half) → less_z (twice a) (twice b) → less_z (twice a +ℤ half_in h) (twice b)
  less Minus l =
      subst (λ x. less_z x (twice b)) (sym (minus_one (twice a)))
      (total-z.trans {a = pred_ℤ (twice a)} {b = twice a} {c = twice b} (pred_below (twice a)) l)
  less Zero l = subst (λ x. less_z x (twice b)) (sym (+ℤ_idr (twice a))) l
  less Plus l = subst (λ x. less_z x (twice b)) (sym (+ℤ_one (twice a))) (half_below a b l)

  greater : (h : Half) → less_z (twice b) (twice a) → less_z (twice b) (twice a +ℤ half_in h)
  greater Minus l =
      subst (λ x. less_z (twice b) x) (sym (minus_one (twice a))) (above-pred (twice b) (twice a) (half_below b a l))
  greater Zero l = subst (λ x. less_z (twice b) x) (sym (+ℤ_idr (twice a))) l
  greater Plus l =
      subst (λ x. less_z (twice b) x) (sym (+ℤ_one (twice a)))
      (total-z.trans {a = twice b} {b = twice a} {c = suc_ℤ (twice a)} l (suc-above (twice a)))

  equal : (h : Half) → twice a ≡ twice b → cmp_z (twice a +ℤ half_in h) (twice b) ≡ half_order h
  equal Minus e =
      cmp-lt total-z {a = twice a +ℤ negsuc 0} {b = twice b}
      (subst (λ x. less_z (twice a +ℤ negsuc 0) x) e
      (subst (λ x. less_z x (twice a)) (sym (minus_one (twice a))) (pred_below (twice a))))
  equal Zero e = cmp-eq total-z {a = twice a +ℤ pos 0} {b = twice b} (+ℤ_idr (twice a) ∙ e)
  equal Plus e =
      cmp-gt total-z {a = twice a +ℤ pos 1} {b = twice b}
      (subst (λ x. less_z x (twice a +ℤ pos 1)) e
      (subst (λ x. less_z (twice a) x) (sym (+ℤ_one (twice a))) (suc-above (twice a))))

  whole-first : (h : Half) → whole_first (cmp_z (twice a) (twice b)) h ≡ cmp_z (twice a +ℤ half_in h) (twice b)
  whole-first h = go (total-z.view (twice a) (twice b))
    where
      go : {o : Ordering} → View less_z (twice a) (twice b) o → whole_first o h ≡ cmp_z (twice a +ℤ half_in h) (twice b)
      go (less_view l) = sym (cmp-lt total-z {a = twice a +ℤ half_in h} {b = twice b} (less h l))
      go (equal_view e) = sym (equal h e)
      go (greater_view l) = sym (cmp-gt total-z {a = twice a +ℤ half_in h} {b = twice b} (greater h l))

-- The order of the keys, of what comparing the whole parts answered.
pub place-order : (w : ℕ) (h : Half) (v : ℕ) (o : Ordering) → o ≡ ord_z.cmp (key w) (key v)
    → whole_first o h ≡ ord_z.cmp (key_in w h) (key v)
place-order w h v o e = ap (λ x. whole_first x h) e ∙ whole-first (to_z w64 w) (to_z w64 v) h
