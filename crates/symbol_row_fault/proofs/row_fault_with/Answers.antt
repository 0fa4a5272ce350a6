use Rattle.records.proofs.Laws.{flags}
use Rattle.symbol_rows.specs.RowTestWith.{row_fault_with}
use Rattle.symbol_row_fault.proofs.Faults.{bad-column, no_fault}
use mathlib.Core.Path.{ap}
use mathlib.Core.Bool.{not}
use Rattle.symbol_row_fault.proofs.row_fault_with.Goals as goal

pub returns-then-row-table : goal.returns-then-row-table
unfolding row_fault_with
returns-then-row-table c = search flags

pub returns-then-not-marks_ok : goal.returns-then-not-marks_ok
unfolding row_fault_with
returns-then-not-marks_ok c = search (flags, ← c.marks_ok.ensures)

pub returns-then-not-columns_ok : goal.returns-then-not-columns_ok
returns-then-not-columns_ok c =
    bad-column c.args.text.now c.args.table.now c.args.row.now c.args.nulls c.if-row-table.false _
    _ c.marks_ok.ensures (ap not c.if-not-marks_ok.false) c.columns_ok.ensures (ap not c.if-not-columns_ok.true)

pub returns : goal.returns
returns c =
    no_fault c.args.text.now c.args.table.now c.args.row.now c.args.nulls c.if-row-table.false _ _
    c.marks_ok.ensures (ap not c.if-not-marks_ok.false) c.columns_ok.ensures (ap not c.if-not-columns_ok.false)
