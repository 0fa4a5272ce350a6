use Prim.Native.Nat.{◌+◌}
use Rattle.pool_order.specs.Order.{Below}
use Rattle.pool_order.proofs.asking.has_between.Given as goal

abbrev pub invariant-loop-len : goal.invariant-loop-len
invariant-loop-len l =
    Below l.order (8192 + l.count) l.z l.lo l.len

abbrev pub decreases-loop-len : goal.decreases-loop-len
decreases-loop-len l =
    l.len
