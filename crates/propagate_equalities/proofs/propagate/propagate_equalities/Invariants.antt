use mathlib.Core.Path.{◌≡◌}
use mathlib.Core.List.{List}
use Prim.Native.Nat.{ℕ, ◌-◌, ◌≤◌}
use lib.ListN.{length}
use Rattle.column_constraints.specs.Abstraction.{conjuncts}
use Rattle.column_table.specs.Words.{columns_of}
use Rattle.column_table.specs.State.{ColumnTable, Shows, Fits, Passed, edges_of, shown}
use Rattle.propagate_equalities.specs.Quiet.{QuietEdges}
use Rattle.propagate_equalities.proofs.propagate.propagate_equalities.Given as goal

abbrev pub invariant-loop-passes : goal.invariant-loop-passes
invariant-loop-passes l =
    (l.passes ≤ l.columns) × ((T : ColumnTable) (equals : List ℕ) → Shows (conjuncts l.told
    l.pool) (columns_of l.initial.cells) l.initial.marks T → Passed (conjuncts l.told l.pool) (columns_of l.cells)
    l.marks (edges_of l.lefts l.rights equals l.edges) l.columns l.passes l.emitted l.going T) × Fits l.cells l.marks × (length l.marks
    ≡ length l.initial.marks) × (length l.cells ≡ length l.initial.cells) × QuietEdges (shown (conjuncts l.told
    l.pool) (columns_of l.cells) l.marks) l.lefts l.rights l.edges l.before

abbrev pub decreases-loop-passes : goal.decreases-loop-passes
decreases-loop-passes l =
    l.columns - l.passes
