use mathlib.Core.Path.{refl, ◌∙◌}
use borrow.Author.Rules.{rules}
use Rattle.pool_guides.proofs.guides.note_groups.Goals as goal
use Rattle.pool_guides.proofs.guides.note_groups.Goals.{then-p-own, else-p-own}

pub loop-turn-init : goal.loop-turn-init
loop-turn-init c = (search rules, search rules, λ q l. refl)

pub loop-turn-preserved : goal.loop-turn-preserved
loop-turn-preserved c =
    elim c.if-p-own.branch [
      | then-p-own w ↦ (search rules, search rules, rw w.order-is c.loop-turn.invariant.2)
      | else-p-own w ↦ (
        search rules,
        search rules,
        rw w.order-is (λ q l. w.note_group.ensures q l ∙ c.loop-turn.invariant.2 q l),
      )
    ]

pub returns : goal.returns
returns c = c.loop-turn.invariant.2
