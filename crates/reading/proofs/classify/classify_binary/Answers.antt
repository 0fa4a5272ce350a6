use mathlib.Core.Path.{◌∙◌}
use Rattle.read_operands.proofs.Reading.{binary-read}
use Rattle.reading.proofs.classify.classify_binary.Goals as goal

pub returns : goal.returns
returns c =
    λ p. c.binary_conjunct.ensures p _ ∙ binary-read _ _ p _ _ _ _ _ c.requires.binary c.operator_at.ensures c.word_in.ensures c.word_in-2.ensures (c.operand_at.ensures p) (c.operand_at-2.ensures p)
