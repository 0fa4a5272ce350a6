use mathlib.Core.Path.{refl}
use Rattle.resolve_deferred.proofs.resolve.open_upper.Goals as goal

pub returns : goal.returns
returns c = record { result_value = (λ t a. rw c.opened.ensures); len_value = refl }
