use mathlib.Core.Path.{refl}
use Rattle.collect_constraints.proofs.collect.with_null_line.Goals as goal

pub returns-then-is_required : goal.returns-then-is_required
returns-then-is_required c =
    record { result_value = (λ t a. refl); len_value = refl; since_value = rw (← c.is_required.ensures, c.if-is_required.true) }
