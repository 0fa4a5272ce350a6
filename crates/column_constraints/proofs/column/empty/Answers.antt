use Rattle.column_constraints.specs.Abstraction.{excluded_by, allowed_by, disallowed_by, gather}
use mathlib.Core.Path.{refl}
use Rattle.column_constraints.proofs.column.empty.Goals as goal

pub returns : goal.returns
unfolding excluded_by allowed_by disallowed_by gather
returns c = record { result_value = (λ t a. refl); len_value = refl }
