use mathlib.Core.Path.{◌∙◌}
use Rattle.check_lent.proofs.Lent.{lent_alike}
use Rattle.check_lent.proofs.check_lent.Goals as goal

pub returns-then-used-le64 : goal.returns-then-used-le64
returns-then-used-le64 c = rw c.lent_as.ensures at c.check_few.ensures ∙ lent_alike _ _ _ _ _ _
