use mathlib.Core.Path.{ap}
use mathlib.Core.Bool.{true, false}
use Rattle.constraints.specs.Bound.{at}
use Rattle.symbol_columns.proofs.convert.literal_bound.Goals as goal

pub returns-in-Absent : goal.returns-in-Absent
returns-in-Absent c = λ p. rw c.in-Absent.is

pub returns-in-Open : goal.returns-in-Open
returns-in-Open c = λ p. rw c.in-Open.is (ap (at false) (c.literal_limit.ensures p))

pub returns-in-Closed : goal.returns-in-Closed
returns-in-Closed c = λ p. rw c.in-Closed.is (ap (at true) (c.literal_limit-in-Closed.ensures p))
