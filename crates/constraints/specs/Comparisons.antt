-- `collect_column_comparisons`: what a resolved column is written out as.
use Rattle.std.specs.Prelude.{Bool, List, [], ◌∷◌, ◌++◌, map}
use Rattle.std.proofs.Math.Option.{Option, none, some}
use Rattle.constraints.specs.Scalars.{Scalars}
use Rattle.constraints.specs.Bound.{of_bound}
use Rattle.constraints.specs.Column.{ColumnConstraints}
use Rattle.constraints.specs.Resolve.{fixed_at}

-- `== v`, a lower or an upper bound (inclusive, v), `!= v`.
pub data ColumnComparison (Val : Type 0) : Type 0 where
  IsEq : Val → ColumnComparison Val
  IsLower : Bool → Val → ColumnComparison Val
  IsUpper : Bool → Val → ColumnComparison Val
  IsNotEq : Val → ColumnComparison Val

-- A fixed column is one `==`; else its lower bound, its upper bound, its excluded values in order of insertion.
abbrev pub collect_by : {Val : Type 0} → Option Val → ColumnConstraints Val → List (ColumnComparison Val)
collect_by (some v) cc = IsEq v ∷ []
collect_by none cc = of_bound IsLower cc.lower ++ (of_bound IsUpper cc.upper ++ map IsNotEq cc.excluded)

module _ {K Val : Type 0} (S : Scalars K Val) where
  abbrev pub collect_column_comparisons : ColumnConstraints Val → List (ColumnComparison Val)
  collect_column_comparisons cc = collect_by (fixed_at S cc.lower cc.upper) cc
