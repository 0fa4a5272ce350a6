use mathlib.Core.Path.{◌≡◌}
use mathlib.Core.Bool.{false}
use Prim.Native.Nat.{◌-◌, ◌*◌, ◌≤◌}
use lib.ListN.{length}
use Rattle.column_constraints.specs.Abstraction.{conjuncts}
use Rattle.read_operands.specs.Walk.{first_of}
use Rattle.column_table.specs.Words.{columns_of}
use Rattle.column_table.specs.State.{ColumnTable, Shows, Fits, Resolved}
use Rattle.resolve_columns.proofs.conclude.resolve_all.Given as goal

abbrev pub invariant-loop-o : goal.invariant-loop-o
invariant-loop-o l =
    (l.o ≤ l.columns) × (l.total ≤ l.o * 130) × ((T : ColumnTable) → Shows (conjuncts l.told l.pool)
    (columns_of l.initial.cells) l.initial.marks T → Resolved (conjuncts l.told l.pool) (columns_of l.cells) l.marks
    (first_of l.order l.o) false l.unsat l.total T) × Fits l.cells l.marks × (length l.marks ≡ length l.initial.marks) × (length l.cells ≡
    length l.initial.cells)
