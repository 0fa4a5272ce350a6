use mathlib.Core.Path.{◌≡◌}
use mathlib.Core.Bool.{true}
use Prim.Native.Nat.{◌≤◌}
use Rattle.constraints.specs.Payload.{payload}
use Rattle.constraints.specs.Lined.{lined}
use Rattle.column_constraints.specs.Abstraction.{allowed_by}
use Rattle.constraints.specs.Resolve.{is_allowed}
use Rattle.column_constraints.specs.Abstraction.{kinds_in, starts_in, counts_in}
use Rattle.column_sets.proofs.marks.allows.Given as goal

abbrev pub invariant-loop-i : goal.invariant-loop-i
invariant-loop-i l =
    (l.i ≤ l.fn.n) × (is_allowed lined (allowed_by (kinds_in l.told) (starts_in l.told) (counts_in l.told) l.pool l.marks l.i) (payload.key l.v.0) ≡ true)
