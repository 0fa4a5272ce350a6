use Rattle.records.proofs.Laws.{flags}
use Rattle.masks.proofs.reach.mark.Goals as goal

pub returns-then-m-n : goal.returns-then-m-n
returns-then-m-n c = search flags

pub returns-else-m-n : goal.returns-else-m-n
returns-else-m-n c = search flags
