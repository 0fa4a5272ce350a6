use mathlib.Core.Path.{◌∙◌}
use Rattle.check_lent.proofs.check_long.Goals as goal

pub returns : goal.returns
returns c = c.answer_of.ensures ∙ c.check_beside.ensures.result_value
