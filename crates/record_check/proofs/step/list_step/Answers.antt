use Rattle.records.proofs.Laws.{flags}
use Rattle.record_check.specs.Step.{list_step}
use Rattle.record_check.proofs.step.list_step.Goals as goal

pub returns-then-not-f-known_type : goal.returns-then-not-f-known_type
unfolding list_step
returns-then-not-f-known_type c = search (flags, ← c.refused.ensures, ← c.known_type.ensures)

pub returns-then-not-list_ok : goal.returns-then-not-list_ok
unfolding list_step
returns-then-not-list_ok c = search (flags, ← c.refused-then-not-list_ok.ensures, ← c.list_ok.ensures, ← c.known_type.ensures)

pub returns : goal.returns
unfolding list_step
returns c = search (flags, ← c.passed.ensures, ← c.list_ok.ensures, ← c.known_type.ensures)
