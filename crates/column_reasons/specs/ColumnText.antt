-- The text of the reasons of one column, and of the columns of a table, their values shown as `shows` says.
use Rattle.std.specs.Prelude.{List, map, ℕ}
use Rattle.constraints.specs.Comparisons.{ColumnComparison}
use Rattle.constraints.specs.Lined.{Lined, lined}
use Rattle.merge.specs.Collect.{Table}
use Rattle.merge.specs.Emit.{of_column, comparisons}
use Rattle.merge.specs.Reasons.{ReasonValue, reason_of}
use Rattle.reasons.specs.Text.{reasons_text}

unfoldable pub column_text : (ℕ → ℕ → ReasonValue) → ℕ → List (ColumnComparison Lined) → List ℕ
column_text shows a l = reasons_text (map (reason_of shows) (of_column a l))

-- Of the columns of l, in their order.
unfoldable pub table_text : (ℕ → ℕ → ReasonValue) → List ℕ → Table Lined → List ℕ
table_text shows l T = reasons_text (map (reason_of shows) (comparisons lined l T))
