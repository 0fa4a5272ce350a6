use Rattle.check_lent.proofs.lent_if.Goals as goal

pub returns-then-symbols : goal.returns-then-symbols
returns-then-symbols c = rw c.if-symbols.true c.lent_as.ensures
