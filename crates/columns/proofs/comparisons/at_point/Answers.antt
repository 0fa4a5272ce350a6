use Rattle.records.proofs.Laws.{flags}
use Rattle.columns.proofs.comparisons.at_point.Goals as goal

pub returns-then-p-eq0 : goal.returns-then-p-eq0
returns-then-p-eq0 c = search flags

pub returns : goal.returns
returns c = search flags
