use mathlib.Core.Path.{refl}
use native.Mathlib.Omega.{arith}
use borrow.Author.Rules.{rules}
use Rattle.text_order.proofs.making.fill_guides.Goals as goal

pub loop-r-init : goal.loop-r-init
loop-r-init c = (omega arith, refl, omega arith, search rules)

pub shape_of-guides : goal.shape_of-guides
shape_of-guides c = c.loop-r.invariant.1
