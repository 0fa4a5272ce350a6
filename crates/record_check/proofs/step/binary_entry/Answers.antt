use Rattle.record_check.specs.Step.{binary_entry}
use Rattle.record_check.proofs.step.binary_entry.Goals as goal

pub returns-then-code : goal.returns-then-code
unfolding binary_entry
returns-then-code c = rw c.if-code.true

pub returns : goal.returns
unfolding binary_entry
returns c = rw c.if-code.false
