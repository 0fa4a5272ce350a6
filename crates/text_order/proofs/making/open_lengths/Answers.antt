use mathlib.Core.Path.{refl}
use borrow.Author.Rules.{rules}
use Rattle.text_order.proofs.making.open_lengths.Goals as goal

pub loop-l-init : goal.loop-l-init
loop-l-init c = (search rules, refl)

pub shape_of-firsts : goal.shape_of-firsts
shape_of-firsts c = c.loop-l.invariant.1
