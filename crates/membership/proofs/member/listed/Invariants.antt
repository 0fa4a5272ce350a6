use Rattle.truth.specs.FromBytes.{values_from}
use Rattle.truth.specs.Halves.{key}
use Prim.Native.Nat.{◌+◌, ◌-◌, ◌≤◌}
use mathlib.Core.Path.{◌≡◌}
use Rattle.truth.specs.Evaluate.{holds_key}
use Rattle.membership.proofs.member.listed.Given as goal

abbrev pub invariant-loop-i : goal.invariant-loop-i
invariant-loop-i l =
    (l.i ≤ l.end) × (l.end ≡ l.start + l.count)
    × (holds_key (key l.v.0) (values_from l.pool l.i (l.end - l.i)) ≡ holds_key (key l.v.0) (values_from l.pool l.start l.count))
