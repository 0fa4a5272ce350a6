use mathlib.Core.Path.{◌≡◌}
use Prim.Native.Nat.{◌-◌, ◌≤◌}
use lib.ListN.{length}
use Rattle.column_constraints.specs.Abstraction.{conjuncts}
use Rattle.read_operands.specs.Walk.{first_of}
use Rattle.column_table.specs.Words.{columns_of}
use Rattle.column_table.specs.State.{ColumnTable, Shows}
use Rattle.row_shown.specs.Bits.{bits_column}
use Rattle.write_places.specs.Written.{RowWritten}
use Rattle.write_places.proofs.write_places.Given as goal

abbrev pub invariant-loop-c : goal.invariant-loop-c
invariant-loop-c l =
    (l.c ≤ l.columns) × (length l.row ≡ length l.initial.row) × ((T : ColumnTable) → Shows (conjuncts l.told l.pool) (columns_of l.cells)
    l.marks T → RowWritten (first_of l.order l.n) (λ x. bits_column (T x)) l.c l.initial.row l.row
    l.nulls)
