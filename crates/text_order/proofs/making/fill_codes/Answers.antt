use mathlib.Core.Path.{refl}
use native.Mathlib.Omega.{arith}
use Rattle.text_order.proofs.making.fill_codes.Goals as goal

pub loop-s-init : goal.loop-s-init
loop-s-init c = (omega arith, refl)

pub shape_of-codes : goal.shape_of-codes
shape_of-codes c = c.loop-s.invariant.1
