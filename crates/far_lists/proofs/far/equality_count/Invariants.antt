use Prim.Native.Nat.{◌≤◌, ◌-◌}
use Rattle.far_lists.proofs.far.equality_count.Given as goal

abbrev pub invariant-loop-i : goal.invariant-loop-i
invariant-loop-i l = (l.i ≤ l.n) × (l.count ≤ l.i)
