use native.Mathlib.Omega.{arith}
use Rattle.text_order.proofs.making.common.Goals as goal

pub loop-k-init : goal.loop-k-init
loop-k-init c = omega arith
