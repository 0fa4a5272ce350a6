-- 'The line behind a limit' (02, 2.6), of one column: a value that is held is held with its line, and each part of the
-- sentence on lines says which value stays (as statements; proved in proofs/LineKept.antt and HoldsFirst.antt).
use Rattle.std.specs.Prelude.{◌≡◌, Bool, true, false, ◌&&◌, List, [], ◌∷◌, ◌++◌, map, ◌⊎◌}
use Rattle.std.proofs.Math.Option.{some}
use Rattle.constraints.specs.Scalars.{Scalars}
use Rattle.constraints.specs.Bound.{Bound, at, of_bound, tighten}
use Rattle.constraints.specs.Values.{contains, insert}
use Rattle.constraints.specs.Column.{ColumnConstraints, Constraint, Lower, Upper, Exclude, Allow, Disallow, Require}
use Rattle.constraints.specs.Column.{empty, add_all, merge_from}
use Rattle.constraints.specs.Resolve.{open_at, resolve_deferred, fixed_at}
use Rattle.constraints.specs.Lined.{Lined, lined}

-- What a value limits a column as.
pub data Limit : Type 0 where
  LowerBound UpperBound ExcludedValue : Limit

abbrev pub is_bound : Limit → Bool
is_bound LowerBound = true
is_bound UpperBound = true
is_bound ExcludedValue = false

abbrev pub bound_value : {Val : Type 0} → Bound Val → List Val
bound_value b = of_bound (λ inclusive v. v) b

-- The values that a column holds, and those that a constraint gives it, as such a limit.
abbrev pub held_as : {Val : Type 0} → ColumnConstraints Val → Limit → List Val
held_as cc LowerBound = bound_value cc.lower
held_as cc UpperBound = bound_value cc.upper
held_as cc ExcludedValue = cc.excluded

abbrev pub given_as : {Val : Type 0} → Constraint Val → Limit → List Val
given_as (Lower inclusive v) LowerBound = v ∷ []
given_as (Lower inclusive v) UpperBound = []
given_as (Lower inclusive v) ExcludedValue = []
given_as (Upper inclusive v) LowerBound = []
given_as (Upper inclusive v) UpperBound = v ∷ []
given_as (Upper inclusive v) ExcludedValue = []
given_as (Exclude v) LowerBound = []
given_as (Exclude v) UpperBound = []
given_as (Exclude v) ExcludedValue = v ∷ []
given_as (Allow values) k = []
given_as (Disallow counts values) k = []
given_as (Require required) k = []

-- The values that constraints give as such a limit, in order.
abbrev pub all_given_as : {Val : Type 0} → List (Constraint Val) → Limit → List Val
all_given_as [] k = []
all_given_as (a ∷ l) k = given_as a k ++ all_given_as l k

abbrev pub OneOf : {A : Type 0} → A → List A → Type 0
OneOf x [] = ⊥
OneOf x (y ∷ l) = (x ≡ y) ⊎ OneOf x l

module _ {K Val : Type 0} (S : Scalars K Val) where
  -- v is in the list, and no value before it has its key.
  abbrev pub FirstIn : Val → List Val → Type 0
  FirstIn v [] = ⊥
  FirstIn v (w ∷ l) = (v ≡ w) ⊎ ((S.key w ≡ S.key v → ⊥) × FirstIn v l)

  -- "the number of the conjunct that first gave the value it holds": each limit of a column is the first of its key
  -- among the values given to the column as that limit.
  abbrev pub HoldsFirst : Type 0
  HoldsFirst =
      (l : List (Constraint Val)) (k : Limit) (v : Val) → OneOf v (held_as (add_all S l empty) k) →
      FirstIn v (all_given_as l k)

  -- "on an equal value the number already held stays, even where it is the larger": of a bound, that may become open,
  abbrev pub BoundStays : Type 0
  BoundStays =
      (held_inclusive inclusive : Bool) (held v : Val) → S.key v ≡ S.key held →
      (tighten S (at held_inclusive held) inclusive v).bound ≡ at (inclusive && held_inclusive) held

  -- and of an excluded value.
  abbrev pub ExcludedStays : Type 0
  ExcludedStays = (v : Val) (l : List Val) → contains S (S.key v) l ≡ true → insert S v l ≡ l

  -- "passing along an equality keeps it": each limit of the column that takes in is its own, or the other's very value.
  abbrev pub PassingKeeps : Type 0
  PassingKeeps =
      (cc other : ColumnConstraints Val) (k : Limit) (v : Val) → OneOf v (held_as (merge_from S cc other) k) →
      OneOf v (held_as cc k) ⊎ OneOf v (held_as other k)

  -- "An equality made of two bounds names the lower bound's line": it is the lower bound's very value.
  abbrev pub EqualityIsLower : Type 0
  EqualityIsLower = (l u : Bound Val) (v : Val) → fixed_at S l u ≡ some v → l ≡ at true v

-- "or an excluded value opens the bound": the bound's number stays,
abbrev pub OpeningKeepsLine : Type 0
OpeningKeepsLine =
    (inclusive : Bool) (held v : Lined) →
    map (λ w. w.line) (bound_value (open_at lined (at inclusive held) v)) ≡ held.line ∷ []

-- so that resolving gives no limit another number.
abbrev pub ResolvingKeepsLines : Type 0
ResolvingKeepsLines =
    (cc : ColumnConstraints Lined) (k : Limit) (v : Lined) → OneOf v (held_as (resolve_deferred lined cc) k) →
    OneOf v.line (map (λ w. w.line) (held_as cc k))
