use Rattle.column_constraints.proofs.bound.opened_by.Goals as goal

pub returns-then-held-inclusive : goal.returns-then-held-inclusive
returns-then-held-inclusive c = rw c.if-held-inclusive.true

pub returns : goal.returns
returns c = rw c.if-held-inclusive.false
