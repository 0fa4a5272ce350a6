use Rattle.column_constraints.proofs.bound.tighten_lower.Goals as goal

pub returns-in-Absent : goal.returns-in-Absent
returns-in-Absent c = rw (c.in-Absent.is, c.new_value.ensures)

pub returns-in-Open : goal.returns-in-Open
returns-in-Open c = rw (c.in-Open.is, c.tighten.ensures, c.compare-o.ensures)

pub returns-in-Closed : goal.returns-in-Closed
returns-in-Closed c = rw (c.in-Closed.is, c.tighten-in-Closed.ensures, c.compare-o-in-Closed.ensures)
