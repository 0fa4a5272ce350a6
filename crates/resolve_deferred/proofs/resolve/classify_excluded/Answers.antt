use Rattle.resolve_deferred.proofs.resolve.classify_excluded.Goals as goal

pub returns : goal.returns
returns c = λ t a. c.classify_at.ensures
