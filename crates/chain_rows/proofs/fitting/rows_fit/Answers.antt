use Rattle.std.proofs.Common.{◌*◌, length, refl, arith, rules}
use Rattle.records.proofs.Loops.{all_none, all_more, all_fails, all_done, flag_no, flag_yes}
use Rattle.chain_rows.proofs.Rows.{row-end}
use mathlib.Core.Path.{ap}
use mathlib.Core.Bool.{not}
use Rattle.chain_rows.proofs.fitting.rows_fit.Goals as goal

pub loop-r-init : goal.loop-r-init
loop-r-init c = all_none _

pub row_fits-requires : goal.row_fits-requires
row_fits-requires c =
    let h = row-end (8 * length c.args.table.now) c.loop-r.r (length c.args.nulls.now) (omega arith) in
    record { columns_bound = c.requires.table_len_bound; row_bound = omega arith; columns_in_bounds = omega arith; in_bounds = search rules }

pub returns-then-not-row_fits : goal.returns-then-not-row_fits
returns-then-not-row_fits c =
    all_fails _ _ _ (omega arith) (flag_no (c.row_fits.ensures _ _ refl c.fill_limits.ensures refl) (ap not c.if-not-row_fits.true))

pub loop-r-preserved : goal.loop-r-preserved
loop-r-preserved c =
    all_more _ _ c.loop-r.invariant (flag_yes (c.row_fits.ensures _ _ refl c.fill_limits.ensures refl) (ap not c.if-not-row_fits.false))

pub returns : goal.returns
returns c = all_done _ _ _ (omega arith) (omega arith) c.loop-r.invariant
