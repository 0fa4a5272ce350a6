-- Half of an edge: one of its columns takes in what the other says.
use Rattle.std.specs.Prelude.{◌≡◌, Bool, List, ℕ}
use Rattle.constraints.specs.Column.{merge_from, merge_emitted, merge_any}
use Rattle.constraints.specs.Lined.{lined}
use Rattle.column_constraints.specs.Abstraction.{Conjuncts}
use Rattle.column_constraints.specs.declared.column.ColumnConstraints.{ColumnConstraints}
use Rattle.merge.specs.Collect.{update}
use Rattle.column_table.specs.State.{ColumnTable, Shows}

-- The column a with what b says, over the table that the arrays stood for.
pub record TakenIn (t : Conjuncts) (table : List ColumnConstraints) (marks : List ℕ) (a b : ℕ) (emitted any : Bool)
    (T : ColumnTable) : Type 0 where
  pub shows : Shows t table marks (update T a (merge_from lined (T a) (T b)))
  pub emits : emitted ≡ merge_emitted lined (T a) (T b)
  pub changes : any ≡ merge_any lined (T a) (T b)
