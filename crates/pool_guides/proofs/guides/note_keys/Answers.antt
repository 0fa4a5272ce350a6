use mathlib.Core.Path.{refl, ◌∙◌}
use borrow.Author.Rules.{rules}
use Rattle.pool_guides.proofs.guides.note_keys.Goals as goal

pub loop-r-init : goal.loop-r-init
loop-r-init c = (search rules, refl, (λ q l. refl))

pub loop-r-preserved : goal.loop-r-preserved
loop-r-preserved c = (search rules, search rules, (λ q l. c.note_key.ensures q l ∙ c.loop-r.invariant.2 q l))

pub shape_of-order : goal.shape_of-order
shape_of-order c = c.loop-r.invariant.1

pub returns : goal.returns
returns c = c.loop-r.invariant.2
