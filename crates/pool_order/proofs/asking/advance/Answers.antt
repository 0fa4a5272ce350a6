use Rattle.records.proofs.Laws.{flags}
use Rattle.pool_order.proofs.asking.advance.Goals as goal

pub returns-then-y-z : goal.returns-then-y-z
returns-then-y-z c = search flags

pub returns-else-y-z : goal.returns-else-y-z
returns-else-y-z c = search flags
