use Rattle.records.proofs.Laws.{flags}
use Rattle.record_check.specs.Step.{column_step}
use Rattle.record_check.proofs.step.column_step.Goals as goal

pub returns-then-not-f : goal.returns-then-not-f
unfolding column_step
returns-then-not-f c = search (flags, ← c.refused.ensures)

pub returns-then-t-at : goal.returns-then-t-at
unfolding column_step
returns-then-t-at c = search (flags, ← c.refused-then-t-at.ensures)

pub returns : goal.returns
unfolding column_step
returns c = search (flags, ← c.passed.ensures)
