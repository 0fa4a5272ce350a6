use Prim.Native.Nat.{◌+◌, ◌/◌}
use native.Mathlib.Omega.{arith}
use lib.Seq.{get_or-set_other}
use Rattle.pool_guides.proofs.guides.note_group.Goals as goal

pub returns-then-g-eq0 : goal.returns-then-g-eq0
returns-then-g-eq0 c = λ q l. get_or-set_other c.args.order.now (16388 + c.args.g / 4) q _ 0 (λ e. omega (arith, e, l))

pub returns-else-g-eq0 : goal.returns-else-g-eq0
returns-else-g-eq0 c = λ q l. get_or-set_other c.args.order.now (16388 + c.args.g / 4) q _ 0 (λ e. omega (arith, e, l))
