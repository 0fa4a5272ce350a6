use Rattle.column_constraints.proofs.bound.bound_at.Goals as goal

pub returns-then-inclusive : goal.returns-then-inclusive
returns-then-inclusive c = rw c.if-inclusive.true

pub returns : goal.returns
returns c = rw c.if-inclusive.false
