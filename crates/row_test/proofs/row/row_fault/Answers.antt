use Rattle.records.proofs.Laws.{flags}
use Rattle.row_test.specs.RowTest.{row_fault}
use Rattle.row_test.proofs.row.row_fault.Goals as goal

pub returns-then-row-table : goal.returns-then-row-table
unfolding row_fault
returns-then-row-table c = search flags

pub returns-then-not-marks_ok : goal.returns-then-not-marks_ok
unfolding row_fault
returns-then-not-marks_ok c = search (flags, ← c.marks_ok.ensures)

pub returns-then-not-columns_ok : goal.returns-then-not-columns_ok
unfolding row_fault
returns-then-not-columns_ok c = search (flags, ← c.columns_ok.ensures, ← c.marks_ok.ensures)

pub returns : goal.returns
unfolding row_fault
returns c = search (flags, ← c.columns_ok.ensures, ← c.marks_ok.ensures)
