use mathlib.Core.Path.{◌≡◌}
use mathlib.Core.Bool.{false}
use Prim.Native.Nat.{◌≤◌}
use Rattle.column_constraints.specs.Abstraction.{marked}
use Rattle.column_sets.proofs.marks.has_mark.Given as goal

abbrev pub invariant-loop-i : goal.invariant-loop-i
invariant-loop-i l = (l.i ≤ l.fn.n) × (marked l.marks l.i l.j ≡ false)
