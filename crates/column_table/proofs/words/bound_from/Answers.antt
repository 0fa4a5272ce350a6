use Rattle.records.proofs.Laws.{flags}
use Rattle.column_table.proofs.words.bound_from.Goals as goal

pub returns-then-kind-eq0 : goal.returns-then-kind-eq0
returns-then-kind-eq0 c = search flags

pub returns-then-kind-eq1 : goal.returns-then-kind-eq1
returns-then-kind-eq1 c = search flags

pub returns : goal.returns
returns c = search flags
