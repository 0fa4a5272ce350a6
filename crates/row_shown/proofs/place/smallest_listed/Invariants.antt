use mathlib.Core.Path.{◌≡◌}
use Prim.Native.Nat.{◌≤◌, ◌+◌, ◌-◌}
use Rattle.constraints.specs.Lined.{lined}
use Rattle.constraints.specs.Resolve.{is_feasible}
use Rattle.column_constraints.specs.Abstraction.{conjuncts, numbered, column_of}
use Rattle.truth.specs.FromBytes.{values_from}
use Rattle.row_shown.specs.Shown.{smallest}
use Rattle.row_shown.specs.Bits.{smallest_of}
use Rattle.row_shown.proofs.place.smallest_listed.Given as goal

abbrev pub invariant-loop-i : goal.invariant-loop-i
invariant-loop-i l =
    (l.i ≤ l.m) × (smallest_of l.best ≡ smallest (is_feasible lined (column_of (conjuncts l.told
    l.pool) (numbered l.marks l.c))) (values_from l.pool (l.s + l.i) (l.m - l.i)))
