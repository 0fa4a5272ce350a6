use mathlib.Core.Path.{refl}
use native.Mathlib.Omega.{arith}
use Rattle.text_order.proofs.making.note_starts.Goals as goal

pub loop-s-init : goal.loop-s-init
loop-s-init c = (omega arith, refl)

pub shape_of-starts : goal.shape_of-starts
shape_of-starts c = c.loop-s.invariant.1
