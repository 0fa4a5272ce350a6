-- Where a value that a merging writes comes from: the conjunct that gave it, and as what. A screen with symbols is merged as the
-- screen of their ranks, and equal symbols have one rank: so the literal that is written is looked up in the records.
use Rattle.std.specs.Prelude.{List, [], ◌∷◌, ℕ, zero, suc}
use Rattle.constraints.specs.Comparisons.{ColumnComparison}
use Rattle.constraints.specs.LineKept.{Limit, ExcludedValue, OneOf, all_given_as}
use Rattle.merge.specs.Classify.{Conjunct, Bounds, Normalized, Equality, Recorded, NonNullPair, Opaque}
use Rattle.merge.specs.Emit.{Outcome, Unchanged, NothingPasses, Rebuilt}
use Rattle.merge.specs.Lines.{map_conjunct}
use Rattle.symbol_screens.specs.Placed.{Placed}

-- A value told by its place, the number of the conjunct that gave it, from 0, and 0 or one more than the number of the conjunct
-- whose excluded value opened the bound.
pub record LinedPlace : Type 0 where
  pub placed : Placed
  pub line : ℕ
  pub opener : ℕ

abbrev pub place_on_line : ℕ → Placed → LinedPlace
place_on_line j v = record { placed = v; line = j; opener = 0 }

abbrev pub opened_place : LinedPlace → LinedPlace → LinedPlace
opened_place bound excluded = record { placed = excluded.placed; line = bound.line; opener = suc excluded.line }

-- Conjuncts under their numbers, counted from i.
unfoldable pub places_from : ℕ → List (Conjunct Placed) → List (Conjunct LinedPlace)
places_from i [] = []
places_from i (c ∷ l) = map_conjunct (place_on_line i) c ∷ places_from (suc i) l

-- The values that a conjunct gives its column as a limit, and those that conjunct j of a list gives.
abbrev pub limits_of : {Val : Type 0} → Conjunct Val → Limit → List Val
limits_of (Bounds c l) k = all_given_as l k
limits_of (Normalized c l) k = all_given_as l k
limits_of (Equality a b n) k = []
limits_of (Recorded stops n c l) k = all_given_as l k
limits_of (NonNullPair n a b) k = []
limits_of (Opaque n) k = []

abbrev pub limits_at : {Val : Type 0} → List (Conjunct Val) → ℕ → Limit → List Val
limits_at [] j k = []
limits_at (x ∷ l) zero k = limits_of x k
limits_at (x ∷ l) (suc j) k = limits_at l j k

-- The number of the conjunct that gave a value, and as what: where a bound was opened, the excluded value is what it holds.
abbrev pub giver : ℕ → ℕ → ℕ
giver line zero = line
giver line (suc e) = e

abbrev pub given_limit : ℕ → Limit → Limit
given_limit zero k = k
given_limit (suc e) k = ExcludedValue

abbrev pub GivenIn : {Val : Type 0} → List (Conjunct Val) → Limit → ℕ → ℕ → Val → Type 0
GivenIn l k line opener v = OneOf v (limits_at l (giver line opener) (given_limit opener k))

-- The comparisons of an outcome, each with its column.
abbrev pub comparisons_of : {Val : Type 0} → Outcome Val → List (ℕ × ColumnComparison Val)
comparisons_of Unchanged = []
comparisons_of NothingPasses = []
comparisons_of (Rebuilt ns cs) = cs
