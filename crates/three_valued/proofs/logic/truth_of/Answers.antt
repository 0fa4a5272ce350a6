use Rattle.records.proofs.Laws.{flags}
use Rattle.three_valued.specs.Logic.{truth_of}
use Rattle.three_valued.proofs.logic.truth_of.Goals as goal

pub returns-then-code-eq0 : goal.returns-then-code-eq0
unfolding truth_of
returns-then-code-eq0 c = search flags

pub returns-then-code-eq1 : goal.returns-then-code-eq1
unfolding truth_of
returns-then-code-eq1 c = search flags

pub returns : goal.returns
unfolding truth_of
returns c = search flags
