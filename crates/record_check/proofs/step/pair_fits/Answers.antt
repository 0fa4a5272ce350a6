use Rattle.records.proofs.Laws.{flags}
use Rattle.record_check.specs.Step.{pair_fits}
use Rattle.record_check.proofs.step.pair_fits.Goals as goal

pub returns-then-code-le7 : goal.returns-then-code-le7
unfolding pair_fits
returns-then-code-le7 c = search flags

pub returns-then-code : goal.returns-then-code
unfolding pair_fits
returns-then-code c = search flags

pub returns : goal.returns
unfolding pair_fits
returns c = search flags
