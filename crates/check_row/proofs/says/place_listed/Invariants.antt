use Rattle.truth.specs.FromBytes.{values_from}
use Rattle.places.specs.Held.{key_in}
use Prim.Native.Nat.{◌+◌, ◌-◌, ◌≤◌}
use mathlib.Core.Path.{◌≡◌}
use Rattle.truth.specs.Evaluate.{holds_key}
use Rattle.check_row.proofs.says.place_listed.Given as goal

abbrev pub invariant-loop-i : goal.invariant-loop-i
invariant-loop-i l =
    (l.i ≤ l.end) × (l.end ≡ l.start + l.count)
    × (holds_key (key_in l.whole.0 l.half) (values_from l.p l.i (l.end - l.i)) ≡ holds_key (key_in l.whole.0 l.half) (values_from l.p l.start l.count))
