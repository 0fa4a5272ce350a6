use Rattle.resolve_deferred.proofs.resolve.opened.Goals as goal

pub returns-in-Absent : goal.returns-in-Absent
returns-in-Absent c = rw c.in-Absent.is

pub returns-in-Open : goal.returns-in-Open
returns-in-Open c = rw (c.in-Open.is, c.open_at.ensures)

pub returns-in-Closed : goal.returns-in-Closed
returns-in-Closed c = rw (c.in-Closed.is, c.open_at-in-Closed.ensures)
