use mathlib.Core.Path.{sym, ◌∙◌}
use Rattle.check_lent.proofs.Lent.{lent_alike}
use Rattle.check_lent.proofs.check_lent_counted.Goals as goal

pub returns : goal.returns
returns c =
    record { value = c.answer_of.ensures ∙ rw c.lent_as.ensures at c.check_with_text.ensures.result_value ∙ lent_alike _ _ _ _ _ _; counted = λ h. c.check_with_text.ensures.counted (sym c.answer_of.ensures ∙ h) }
