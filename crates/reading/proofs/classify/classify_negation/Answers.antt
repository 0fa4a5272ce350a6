use mathlib.Core.Path.{◌∙◌}
use Rattle.read_operands.proofs.Classifying.{negation-binary}
use Rattle.reading.proofs.classify.classify_negation.Goals as goal

pub returns-in-Binary : goal.returns-in-Binary
returns-in-Binary c =
    λ p n. c.classify_negated.ensures p n ∙ negation-binary _ p n _ _ _ _ _ _ _ c.in-Binary.is c.negate.ensures
    (c.operand_at.ensures p) (c.operand_at-in-Binary.ensures p)
