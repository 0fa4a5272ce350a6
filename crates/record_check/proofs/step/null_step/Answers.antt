use Rattle.records.proofs.Laws.{flags}
use Rattle.record_check.specs.Step.{null_step}
use Rattle.record_check.proofs.step.null_step.Goals as goal

pub returns-then-not-f-known_type : goal.returns-then-not-f-known_type
unfolding null_step
returns-then-not-f-known_type c = search (flags, ← c.refused.ensures, ← c.known_type.ensures)

pub returns : goal.returns
unfolding null_step
returns c = search (flags, ← c.passed.ensures, ← c.known_type.ensures)
