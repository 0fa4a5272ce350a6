use native.Mathlib.Omega.{arith}
use lib.Seq.{get_or-set_other}
use Rattle.pool_guides.proofs.guides.write_shift.Goals as goal

pub returns : goal.returns
returns c = λ q l. get_or-set_other c.args.order.now 16386 q _ 0 (λ e. omega (arith, e, l))
