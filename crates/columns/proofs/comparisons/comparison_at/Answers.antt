use Rattle.column_constraints.specs.Steps.{placed}
use Rattle.columns.proofs.comparisons.comparison_at.Goals as goal

pub returns-in-None : goal.returns-in-None
unfolding placed
returns-in-None c =
    λ t e f. rw (← c.fixed_value.ensures t c.args.marks.now, c.in-None.is) (c.at_place.ensures t e f)

pub returns-in-Some : goal.returns-in-Some
unfolding placed
returns-in-Some c = λ t e g. rw (← c.fixed_value.ensures t c.args.marks.now, c.in-Some.is) c.at_point.ensures
