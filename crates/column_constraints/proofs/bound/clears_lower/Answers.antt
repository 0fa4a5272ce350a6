use Rattle.constraints.specs.Payload.{payload}
use Rattle.constraints.specs.Lined.{lined}
use Rattle.column_constraints.proofs.bound.clears_lower.Goals as goal

pub returns-in-Open : goal.returns-in-Open
unfolding lined payload
returns-in-Open c = rw (c.in-Open.is, c.above_by.ensures, c.scalar_cmp-o.ensures)

pub returns-in-Closed : goal.returns-in-Closed
unfolding lined payload
returns-in-Closed c = rw (c.in-Closed.is, c.above_by-in-Closed.ensures, c.scalar_cmp-o-in-Closed.ensures)
