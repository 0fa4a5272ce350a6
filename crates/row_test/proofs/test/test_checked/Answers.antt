use Rattle.row_test.proofs.Answers.{row-long, row-refused, row-tested}
use Rattle.row_test.proofs.Ready.{columns-small, checked-evaluable}
use mathlib.Core.Path.{sym, refl}
use Rattle.std.proofs.lemmas.Result.{err_from_is_err_and}
use Rattle.refusal.proofs.Numbers.{number-positive}
use native.Mathlib.Omega.{arith}
use Rattle.row_test.proofs.test.test_checked.Goals as goal

pub row_fault-requires : goal.row_fault-requires
row_fault-requires c =
    columns-small c.args.table.now c.args.records.now c.args.pool.now c.args.used
    c.args.root.0 c.requires.checked

pub returns-in_err-row_fault : goal.returns-in_err-row_fault
returns-in_err-row_fault c =
    let p = err_from_is_err_and c.from_residual.result c.from_residual.ensures.1 in
    rw (p.1, p.2) (row-refused c.args.table.now c.args.records.now c.args.pool.now c.args.row.now
    c.args.nulls c.args.used c.args.root.0 c.requires.checked _ c.requires.tree_value (omega arith) _
    c.in_err-row_fault.ensures (number-positive _))

pub truth_at-requires : goal.truth_at-requires
truth_at-requires c =
    checked-evaluable c.args.table.now c.args.records.now c.args.pool.now c.args.row.now
    c.args.used c.args.root.0 c.requires.checked
    (row-long c.args.table.now c.args.row.now c.args.nulls (sym c.in_ok-row_fault.ensures))
    c.args.root.0 c.requires.checked.root-used

pub returns : goal.returns
returns c =
    row-tested c.args.table.now c.args.records.now c.args.pool.now c.args.row.now
    c.args.nulls c.args.used c.args.root.0 c.requires.checked _ c.requires.tree_value (omega arith) _
    c.in_ok-row_fault.ensures refl _ c.truth_at.ensures
