use Rattle.records.proofs.Laws.{flags}
use Rattle.column_table.proofs.words.nullability_from.Goals as goal

pub returns-then-word-eq0 : goal.returns-then-word-eq0
returns-then-word-eq0 c = search flags

pub returns-then-word-eq1 : goal.returns-then-word-eq1
returns-then-word-eq1 c = search flags

pub returns : goal.returns
returns c = search flags
