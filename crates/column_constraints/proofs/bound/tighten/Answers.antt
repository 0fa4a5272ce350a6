use Rattle.column_constraints.proofs.bound.tighten.Goals as goal

pub returns-in-Greater : goal.returns-in-Greater
returns-in-Greater c = rw (c.in-Greater.is, c.new_value.ensures)

pub returns-in-Equal : goal.returns-in-Equal
returns-in-Equal c = rw (c.in-Equal.is, c.opened_by.ensures, c.bound_at.ensures)

pub returns-in-Less : goal.returns-in-Less
returns-in-Less c = rw (c.in-Less.is, c.bound_at-in-Less.ensures)
