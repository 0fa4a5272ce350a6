use Prim.Native.Nat.{◌-◌, ◌≤◌}
use Rattle.symbol_merge.proofs.Taken.{Taken}
use Rattle.symbol_merge.proofs.front.take_kinds.Given as goal

abbrev pub invariant-loop-j : goal.invariant-loop-j
invariant-loop-j l =
    (l.j ≤ l.n) × Taken l.told l.initial.bits l.bits l.j
