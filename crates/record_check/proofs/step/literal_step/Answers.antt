use Rattle.records.proofs.Laws.{flags}
use Rattle.record_check.specs.Step.{literal_step}
use Rattle.record_check.proofs.step.literal_step.Goals as goal

pub returns-then-not-f-known_type : goal.returns-then-not-f-known_type
unfolding literal_step
returns-then-not-f-known_type c = search (flags, ← c.refused.ensures, ← c.known_type.ensures)

pub returns-then-f-ne0 : goal.returns-then-f-ne0
unfolding literal_step
returns-then-f-ne0 c = search (flags, ← c.refused-then-f-ne0.ensures, ← c.known_type.ensures)

pub returns-then-not-in_type : goal.returns-then-not-in_type
unfolding literal_step
returns-then-not-in_type c = search (flags, ← c.refused-then-not-in_type.ensures, ← c.in_type.ensures, ← c.known_type.ensures)

pub returns : goal.returns
unfolding literal_step
returns c = search (flags, ← c.passed.ensures, ← c.in_type.ensures, ← c.known_type.ensures)
