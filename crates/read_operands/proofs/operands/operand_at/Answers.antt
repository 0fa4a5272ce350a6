use mathlib.Core.Path.{◌∙◌}
use Rattle.read_operands.proofs.Classifying.{operand-law}
use Rattle.read_operands.proofs.operands.operand_at.Goals as goal

pub returns : goal.returns
returns c = λ p. c.operand_of.ensures p ∙ operand-law _ p _ _ c.record_at.ensures
