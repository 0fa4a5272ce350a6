use mathlib.Core.Path.{◌∙◌}
use Rattle.read_operands.proofs.Reading.{operand-other, operand-column, operand-literal, operand-list}
use Rattle.read_operands.proofs.operands.operand_in.Goals as goal

pub returns-then-kind-eq1 : goal.returns-then-kind-eq1
returns-then-kind-eq1 c = λ p. operand-column _ _ p _ c.if-kind-eq1.true c.word_in.ensures

pub returns-then-kind-eq2 : goal.returns-then-kind-eq2
returns-then-kind-eq2 c = λ p. operand-literal _ _ p _ c.if-kind-eq2.true c.value_in.ensures

pub returns-then-kind-eq9 : goal.returns-then-kind-eq9
returns-then-kind-eq9 c =
    λ p.
    c.list_operand.ensures p
    ∙ operand-list _ _ p _ _ c.if-kind-eq9.true c.word_in-then-kind-eq9.ensures
    c.word_in-then-kind-eq9-2.ensures

pub returns : goal.returns
returns c = λ p. operand-other _ _ p c.if-kind-eq1.false c.if-kind-eq2.false c.if-kind-eq9.false
