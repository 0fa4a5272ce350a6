use Rattle.resolve_deferred.proofs.resolve.classify_lower_by.Goals as goal

pub returns-in-Greater : goal.returns-in-Greater
returns-in-Greater c = rw (c.in-Greater.is, c.classify_upper.ensures)
