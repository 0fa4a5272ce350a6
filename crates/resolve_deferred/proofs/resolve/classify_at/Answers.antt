use Rattle.resolve_deferred.proofs.resolve.classify_at.Goals as goal

pub returns-in-Absent : goal.returns-in-Absent
returns-in-Absent c = rw (c.in-Absent.is, c.classify_upper.ensures)

pub returns-in-Open : goal.returns-in-Open
returns-in-Open c = rw (c.in-Open.is, c.classify_lower_by.ensures, c.compare-o.ensures)

pub returns-in-Closed : goal.returns-in-Closed
returns-in-Closed c =
    rw (
      c.in-Closed.is,
      c.classify_lower_by-in-Closed.ensures,
      c.compare-o-in-Closed.ensures,
    )
