use mathlib.Core.Path.{◌∙◌, refl}
use Rattle.read_operands.proofs.Classifying.{binary-law, negation-law}
use Rattle.reading.proofs.classify.classify_record.Goals as goal

pub returns-in-Binary : goal.returns-in-Binary
returns-in-Binary c =
    λ p n. c.binary_conjunct.ensures p n ∙ binary-law _ p n _ _ _ _ _ _ _ c.in-Binary.is refl (c.operand_at.ensures
    p) (c.operand_at-in-Binary.ensures p)

pub returns-in-Not : goal.returns-in-Not
returns-in-Not c = λ p n. c.classify_negation.ensures p n ∙ negation-law _ p n _ _ _ c.in-Not.is c.record_at.ensures
