use Prim.Native.Nat.{◌-◌, ◌≤◌, ◌<◌}
use mathlib.Core.Path.{◌≡◌}
use lib.ListN.{length}
use Rattle.pool_guesses.proofs.guessing.enter_groups.Given as goal

abbrev pub invariant-loop-i : goal.invariant-loop-i
invariant-loop-i l =
    (l.shift < 64) × (l.i ≤ 64) × (length l.spots ≡ length l.initial.spots)
