use mathlib.Core.Path.{◌≡◌}
use mathlib.Core.List.{List}
use Prim.Native.Nat.{ℕ, ◌+◌, ◌-◌, ◌≤◌}
use lib.ListN.{length}
use Rattle.column_constraints.specs.Abstraction.{Conjuncts}
use Rattle.column_table.specs.Words.{columns_of}
use Rattle.column_table.specs.State.{ColumnTable, Shows, Keeps, Kept, edges_of}
use Rattle.resolve_columns.proofs.conclude.keep_equalities.Given as goal

abbrev pub invariant-loop-e : goal.invariant-loop-e
invariant-loop-e v =
    (v.e ≤ v.edges) × (v.next ≤ v.keeps + v.e) × ((t : Conjuncts) (marks : List ℕ) (T : ColumnTable) (l rights : List ℕ) →
    Shows t (columns_of v.cells) marks T → Keeps v.initial.kept v.keeps l → Kept T (edges_of v.lefts rights v.equals v.e) v.kept v.next
    v.dropped l) × (length v.kept ≡ length v.initial.kept)
