use Prim.Native.Nat.{◌≤◌}
use Rattle.text_order.proofs.making.common.Given as goal

abbrev pub invariant-loop-k : goal.invariant-loop-k
invariant-loop-k l =
    l.k ≤ 16
