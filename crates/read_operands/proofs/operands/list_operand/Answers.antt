use Rattle.read_operands.proofs.Classifying.{list-short, list-long}
use Rattle.read_operands.proofs.operands.list_operand.Goals as goal

pub returns-then-marked : goal.returns-then-marked
returns-then-marked c = λ p. rw c.if-marked.true

pub returns-then-count-le100 : goal.returns-then-count-le100
returns-then-count-le100 c = λ p. rw c.if-marked.false (list-short p _ _ c.if-count-le100.true)

pub returns : goal.returns
returns c = λ p. rw c.if-marked.false (list-long p _ _ c.if-count-le100.false)
