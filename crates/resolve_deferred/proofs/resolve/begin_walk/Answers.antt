use Rattle.column_constraints.specs.Abstraction.{excluded_by, allowed_by, disallowed_by, gather}
use mathlib.Core.Path.{refl}
use Rattle.resolve_deferred.proofs.resolve.begin_walk.Goals as goal

pub returns : goal.returns
unfolding excluded_by allowed_by disallowed_by gather
returns c = record { result_value = (λ t a. refl); len_value = refl }
