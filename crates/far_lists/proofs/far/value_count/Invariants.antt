use Prim.Native.Nat.{◌*◌, ◌≤◌, ◌-◌}
use Rattle.far_lists.proofs.far.value_count.Given as goal

abbrev pub invariant-loop-j : goal.invariant-loop-j
invariant-loop-j l = (l.j ≤ l.n) × (l.total ≤ l.j * 4294967296)
