use mathlib.Core.Path.{◌≡◌}
use Prim.Native.Nat.{◌-◌, ◌≤◌}
use lib.ListN.{length}
use Rattle.truth.specs.FromBytes.{aexpr_of}
use Rattle.column_constraints.specs.Abstraction.{conjuncts}
use Rattle.column_table.specs.Words.{columns_of}
use Rattle.column_table.specs.State.{Shows}
use Rattle.contradiction.specs.Labels.{told_to}
use Rattle.contradiction.proofs.told.tell_lines.Given as goal

abbrev pub invariant-loop-i : goal.invariant-loop-i
invariant-loop-i l =
    (l.i ≤ l.n) × Shows (conjuncts l.told l.pool) (columns_of l.cells) l.marks (told_to l.labels (aexpr_of
    l.rs l.pool) l.nodes l.i) × (length l.cells ≡ length l.initial.cells) × (length l.marks ≡ length l.initial.marks)
