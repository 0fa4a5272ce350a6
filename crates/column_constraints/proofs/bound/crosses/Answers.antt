use Rattle.column_constraints.proofs.bound.crosses.Goals as goal

pub returns-in-Open : goal.returns-in-Open
returns-in-Open c = rw (c.in-Open.is, c.crosses_at.ensures)

pub returns-in-Closed : goal.returns-in-Closed
returns-in-Closed c = rw (c.in-Closed.is, c.crosses_at-in-Closed.ensures)
