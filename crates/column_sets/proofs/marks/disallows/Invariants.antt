use mathlib.Core.Path.{◌≡◌}
use mathlib.Core.Bool.{false}
use Prim.Native.Nat.{◌≤◌}
use Rattle.constraints.specs.Payload.{payload}
use Rattle.constraints.specs.Lined.{lined}
use Rattle.constraints.specs.Values.{contains}
use Rattle.column_constraints.specs.Abstraction.{disallowed_by}
use Rattle.column_constraints.specs.Abstraction.{kinds_in, starts_in, counts_in}
use Rattle.column_sets.proofs.marks.disallows.Given as goal

abbrev pub invariant-loop-i : goal.invariant-loop-i
invariant-loop-i l =
    (l.i ≤ l.fn.n) × (contains lined (payload.key l.v.0) (disallowed_by (kinds_in l.told) (starts_in l.told) (counts_in l.told) l.pool l.marks l.i) ≡ false)
