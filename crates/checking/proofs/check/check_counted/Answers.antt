use mathlib.Core.Path.{sym, ◌∙◌}
use Rattle.checking.proofs.check.check_counted.Goals as goal

pub returns : goal.returns
returns c =
    record { value = c.answer_of.ensures ∙ c.check_with_text.ensures.result_value; counted = λ h. c.check_with_text.ensures.counted (sym c.answer_of.ensures ∙ h) }
