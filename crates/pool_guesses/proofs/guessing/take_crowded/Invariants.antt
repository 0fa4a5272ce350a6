use Prim.Native.Nat.{◌-◌, ◌≤◌}
use mathlib.Core.Path.{◌≡◌}
use lib.ListN.{length}
use Rattle.pool_guesses.proofs.guessing.take_crowded.Given as goal

abbrev pub invariant-loop-i : goal.invariant-loop-i
invariant-loop-i l =
    (l.i ≤ 64) × (l.n ≤ l.i) × (length l.few ≡ length l.initial.few) × (length l.rows ≡ length l.initial.rows)
