use Rattle.records.proofs.Laws.{flags}
use Rattle.record_check.specs.Step.{good}
use Rattle.record_check.proofs.step.passed.Goals as goal

pub returns : goal.returns
unfolding good
returns c = search flags
