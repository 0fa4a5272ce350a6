use Rattle.records.proofs.Laws.{flags}
use Rattle.record_check.specs.Step.{bad}
use Rattle.record_check.proofs.step.refused.Goals as goal

pub returns : goal.returns
unfolding bad
returns c = search flags
