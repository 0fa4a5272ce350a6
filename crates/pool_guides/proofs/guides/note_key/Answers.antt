use Prim.Native.Nat.{◌+◌, ◌/◌}
use native.Mathlib.Omega.{arith}
use lib.Seq.{get_or-set_other}
use Rattle.pool_guides.proofs.guides.note_key.Goals as goal

pub returns-then-order-at-eq0 : goal.returns-then-order-at-eq0
returns-then-order-at-eq0 c =
    λ q l. get_or-set_other c.args.order.now (19464 + c.slot_of-slot.result / 4) q _ 0 (λ e. omega (arith, e, l))
