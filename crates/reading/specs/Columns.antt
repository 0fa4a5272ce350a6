-- Every column of a conjunct is below k, as a table of k columns asks.
use Rattle.std.specs.Prelude.{ℕ, ◌<◌}
use Rattle.merge.specs.Classify.{Conjunct, Bounds, Normalized, Equality, Recorded, NonNullPair, Opaque}

abbrev pub ColumnsBelow : ℕ → Conjunct ℕ → Type 0
ColumnsBelow k (Bounds c l) = c < k
ColumnsBelow k (Normalized c l) = c < k
ColumnsBelow k (Equality a b n) = (a < k) × (b < k)
ColumnsBelow k (Recorded stops n c l) = c < k
ColumnsBelow k (NonNullPair n a b) = (a < k) × (b < k)
ColumnsBelow k (Opaque n) = Unit {0}
