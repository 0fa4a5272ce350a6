use Prim.Native.Nat.{◌-◌, ◌≤◌}
use mathlib.Core.Path.{◌≡◌}
use lib.ListN.{length}
use Rattle.masks.proofs.Reaching.{Reached}
use Rattle.masks.proofs.reach.mark_reached.Given as goal

abbrev pub invariant-loop-n : goal.invariant-loop-n
invariant-loop-n l =
    (l.n ≤ l.initial.n) × (length l.marks ≡ length l.initial.marks) × (4096 ≤ length l.marks) × Reached l.records l.marks (l.initial.n - 1) l.n
