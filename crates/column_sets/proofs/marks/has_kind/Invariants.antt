use mathlib.Core.Path.{◌≡◌}
use mathlib.Core.Bool.{false}
use Prim.Native.Nat.{◌≤◌}
use Rattle.column_constraints.specs.Steps.{any_of_kind}
use Rattle.column_constraints.specs.Abstraction.{kinds_in}
use Rattle.column_sets.proofs.marks.has_kind.Given as goal

abbrev pub invariant-loop-i : goal.invariant-loop-i
invariant-loop-i l = (l.i ≤ l.fn.n) × (any_of_kind (kinds_in l.told) l.k l.marks l.i ≡ false)
