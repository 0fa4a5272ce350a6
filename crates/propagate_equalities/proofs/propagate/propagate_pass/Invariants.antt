use mathlib.Core.Path.{◌≡◌}
use mathlib.Core.List.{List}
use Prim.Native.Nat.{ℕ, ◌-◌, ◌≤◌}
use lib.Bits.{bit_or}
use lib.ListN.{length}
use Rattle.column_constraints.specs.Abstraction.{conjuncts}
use Rattle.column_table.specs.Words.{columns_of}
use Rattle.column_table.specs.State.{ColumnTable, Shows, Fits, EdgesMerged, edges_of, shown}
use Rattle.propagate_equalities.specs.Quiet.{QuietEdges}
use Rattle.propagate_equalities.proofs.propagate.propagate_pass.Given as goal

abbrev pub invariant-loop-e : goal.invariant-loop-e
invariant-loop-e l =
    (l.e ≤ l.edges) × ((T : ColumnTable) (equals : List ℕ) → Shows (conjuncts l.told l.pool)
    (columns_of l.initial.cells) l.initial.marks T → EdgesMerged (conjuncts l.told l.pool) (columns_of l.cells)
    l.marks (edges_of l.lefts l.rights equals l.e) l.emitted l.any T) × Fits l.cells l.marks × (length l.marks ≡ length l.initial.marks) ×
    (length l.cells ≡ length l.initial.cells) × QuietEdges (shown (conjuncts l.told l.pool) (columns_of
    l.cells) l.marks) l.lefts l.rights l.e l.word × QuietEdges (shown (conjuncts l.told l.pool) (columns_of
    l.cells) l.marks) l.lefts l.rights l.edges (bit_or l.before l.word)
