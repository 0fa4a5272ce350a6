use mathlib.Core.Path.{refl}
use Rattle.columns.proofs.merging.merge_upper.Goals as goal

pub returns-in-Absent : goal.returns-in-Absent
returns-in-Absent c = record { result_value = (λ t a. rw c.in-Absent.is); len_value = refl }

pub returns-in-Open : goal.returns-in-Open
returns-in-Open c =
    record { result_value = (λ t a. rw (c.in-Open.is, c.merge_upper_at.ensures.result_value t a)); len_value = c.merge_upper_at.ensures.len_value }

pub returns-in-Closed : goal.returns-in-Closed
returns-in-Closed c =
    record { result_value = (λ t a. rw (c.in-Closed.is, c.merge_upper_at-in-Closed.ensures.result_value t a)); len_value = c.merge_upper_at-in-Closed.ensures.len_value }
