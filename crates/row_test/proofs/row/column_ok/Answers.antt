use Rattle.records.proofs.Laws.{flags}
use Rattle.row_test.specs.RowTest.{column_ok}
use Rattle.row_test.proofs.row.column_ok.Goals as goal

pub returns-then-null : goal.returns-then-null
unfolding column_ok
returns-then-null c = search flags

pub returns : goal.returns
unfolding column_ok
returns c = search (flags, ← c.in_type.ensures)
