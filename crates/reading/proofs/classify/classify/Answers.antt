use mathlib.Core.Path.{◌∙◌}
use Rattle.read_operands.proofs.Classifying.{classify-law}
use Rattle.reading.proofs.classify.classify.Goals as goal

pub returns : goal.returns
returns c = λ p. c.classify_record.ensures p _ ∙ classify-law _ p _ _ c.record_at.ensures
