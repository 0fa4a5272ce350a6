use Rattle.records.proofs.Laws.{flags}
use Rattle.symbol_rows.specs.RowTestWith.{column_ok_with}
use Rattle.symbol_row_fault.proofs.column_ok.Goals as goal

pub returns-then-null : goal.returns-then-null
unfolding column_ok_with
returns-then-null c = search flags

pub returns : goal.returns
unfolding column_ok_with
returns c = search (flags, ← c.in_type.ensures)
