-- What conjuncts give, with each value taken to another one.
use mathlib.Core.Path.{◌≡◌, refl, sym, ◌∙◌, ap, subst}
use mathlib.Core.List.{List, [], ◌∷◌, ◌++◌, map, map-append}
use mathlib.Core.Logic.{inl, inr}
use Prim.Native.Nat.{ℕ, zero, suc}
use Rattle.constraints.specs.Column.{Constraint, Lower, Upper, Exclude, Allow, Disallow, Require}
use Rattle.constraints.specs.LineKept.{Limit, LowerBound, UpperBound, ExcludedValue, OneOf, given_as, all_given_as}
use Rattle.constraints.specs.Mapped.{map_constraint}
use Rattle.merge.specs.Classify.{Conjunct, Bounds, Normalized, Equality, Recorded, NonNullPair, Opaque}
use Rattle.merge.specs.Lines.{map_conjunct}
use Rattle.symbol_sources.specs.Sources.{limits_of, limits_at, giver, given_limit, GivenIn}

-- ---- members
pub one_left : {A : Type 0} (v : A) (l m : List A) → OneOf v l → OneOf v (l ++ m)
one_left v [] m i = absurd i
one_left v (w ∷ l) m (inl e) = inl e
one_left v (w ∷ l) m (inr i) = inr (one_left v l m i)

pub one_right : {A : Type 0} (v : A) (l m : List A) → OneOf v m → OneOf v (l ++ m)
one_right v [] m i = i
one_right v (w ∷ l) m i = inr (one_right v l m i)

one-mapped : {A B : Type 0} (f : A → B) (v : A) (l : List A) → OneOf v l → OneOf (f v) (map f l)
one-mapped f v [] i = absurd i
one-mapped f v (w ∷ l) (inl e) = inl (ap f e)
one-mapped f v (w ∷ l) (inr i) = inr (one-mapped f v l i)

-- ---- each value taken to another one
module _ {A B : Type 0} (f : A → B) where
  given-mapped : (a : Constraint A) (k : Limit) → given_as (map_constraint f a) k ≡ map f (given_as a k)
  given-mapped (Lower c v) LowerBound = refl
  given-mapped (Lower c v) UpperBound = refl
  given-mapped (Lower c v) ExcludedValue = refl
  given-mapped (Upper c v) LowerBound = refl
  given-mapped (Upper c v) UpperBound = refl
  given-mapped (Upper c v) ExcludedValue = refl
  given-mapped (Exclude v) LowerBound = refl
  given-mapped (Exclude v) UpperBound = refl
  given-mapped (Exclude v) ExcludedValue = refl
  given-mapped (Allow l) k = refl
  given-mapped (Disallow c l) k = refl
  given-mapped (Require n) k = refl

  all_mapped : (l : List (Constraint A)) (k : Limit) → all_given_as (map (map_constraint f) l) k ≡ map f (all_given_as l k)
  all_mapped [] k = refl
  all_mapped (a ∷ l) k =
      (λ i. given-mapped a k i ++ all_mapped l k i) ∙ sym (map-append f (given_as a k) (all_given_as l k))

  limits_mapped : (x : Conjunct A) (k : Limit) → limits_of (map_conjunct f x) k ≡ map f (limits_of x k)
  limits_mapped (Bounds c l) k = all_mapped l k
  limits_mapped (Normalized c l) k = all_mapped l k
  limits_mapped (Equality a b n) k = refl
  limits_mapped (Recorded stops n c l) k = all_mapped l k
  limits_mapped (NonNullPair n a b) k = refl
  limits_mapped (Opaque n) k = refl

  at-mapped : (l : List (Conjunct A)) (j : ℕ) (k : Limit) → limits_at (map (map_conjunct f) l) j k ≡ map f (limits_at l j k)
  at-mapped [] j k = refl
  at-mapped (x ∷ l) zero k = limits_mapped x k
  at-mapped (x ∷ l) (suc j) k = at-mapped l j k

  pub given-taken : (l : List (Conjunct A)) (k : Limit) (line opener : ℕ) (v : A) → GivenIn l k line opener v →
      GivenIn (map (map_conjunct f) l) k line opener (f v)
  given-taken l k line opener v i =
      subst (OneOf (f v)) (sym (at-mapped l (giver line opener) (given_limit opener k)))
      (one-mapped f v (limits_at l (giver line opener) (given_limit opener k)) i)
