-- One line of a plain screen on a row, as the code tests it: by what the line says of its column. Lines of other screens are not
-- tested.
use Rattle.std.specs.Prelude.{Bool, true, false, ◌&&◌, List, ℕ, ℤ, get_or}
use Rattle.std.proofs.Math.Option.{Option}
use Rattle.records.specs.Bytes.{all}
use Rattle.truth.specs.AExpr.{AExpr}
use Rattle.truth.specs.Cell.{low_comparison, high_comparison}
use Rattle.truth.specs.Comparison.{Eq, comparison_holds}
use Rattle.truth.specs.Evaluate.{comparing}
use Rattle.three_valued.specs.Logic.{is_true}
use Rattle.std.specs.declared.cmp.Ordering.{Ordering}
use Rattle.constraints.specs.Column.{Constraint}
use Rattle.constraints.proofs.Columns.{obeys_all}
use Rattle.merge.specs.Classify.{Conjunct, Bounds, Normalized, Equality, Recorded, NonNullPair, Opaque, classify}
use Rattle.merge.proofs.Demand.{payload}

-- Null or a key meets all that a line says of its column.
abbrev pub meets_all : List (Constraint ℕ) → Option ℤ → Bool
meets_all l x = obeys_all payload l x

-- Two columns that are not null have one value.
abbrev pub same_keys : Option ℤ → Option ℤ → Bool
same_keys x y = is_true (comparing Eq x y)

-- is_between of what its two comparisons answered.
abbrev pub within_ends : Bool → Bool → Ordering → Ordering → Bool
within_ends low_closed high_closed low high =
    comparison_holds (low_comparison low_closed) low && comparison_holds (high_comparison high_closed) high

abbrev pub line_true : (ℕ → Option ℤ) → Conjunct ℕ → Bool
line_true row (Bounds c l) = meets_all l (row c)
line_true row (Normalized c l) = meets_all l (row c)
line_true row (Equality a b n) = same_keys (row a) (row b)
line_true row (Recorded stops n c l) = meets_all l (row c)
line_true row (NonNullPair n a b) = false
line_true row (Opaque n) = false

-- The first n of `nodes` are true of the row.
abbrev pub lines_true : (ℕ → AExpr ℕ) → (ℕ → Option ℤ) → List ℕ → ℕ → Bool
lines_true R row nodes n = all (λ i. line_true row (classify R (get_or nodes i 0))) n
