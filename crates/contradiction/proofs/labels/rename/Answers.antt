use Rattle.records.proofs.Laws.{flags}
use Rattle.contradiction.proofs.labels.rename.Goals as goal

pub returns-then-x-from : goal.returns-then-x-from
returns-then-x-from c = search flags

pub returns : goal.returns
returns c = search flags
