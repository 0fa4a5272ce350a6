use mathlib.Core.Path.{◌≡◌}
use mathlib.Core.List.{List}
use Prim.Native.Nat.{ℕ, ◌-◌, ◌≤◌}
use lib.ListN.{length}
use Rattle.truth.specs.FromBytes.{aexpr_of}
use Rattle.column_constraints.specs.Abstraction.{Conjuncts}
use Rattle.column_table.specs.Words.{columns_of}
use Rattle.column_table.specs.State.{ColumnTable, Shows}
use Rattle.symbol_columns.proofs.Converting.{converted_to}
use Rattle.symbol_columns.proofs.convert.to_literals.Given as goal

abbrev pub invariant-loop-x : goal.invariant-loop-x
invariant-loop-x l =
    (l.x ≤ length l.t) × ((p : List ℕ) (s : Conjuncts) (marks : List ℕ) (T : ColumnTable) → Shows s (columns_of
    l.initial.cells) marks T → Shows s (columns_of l.cells) marks (converted_to l.x l.t (aexpr_of l.rs p) l.nodes T)) × (length l.cells
    ≡ length l.initial.cells)
