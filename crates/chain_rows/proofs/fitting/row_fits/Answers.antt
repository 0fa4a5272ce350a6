use Rattle.chain_rows.proofs.RowChecks.{row-outside, row_plain, row-marks, row-nulls}
use mathlib.Core.Path.{ap}
use mathlib.Core.Bool.{not}
use Rattle.chain_rows.proofs.fitting.row_fits.Goals as goal

pub returns-then-outside-ne0 : goal.returns-then-outside-ne0
returns-then-outside-ne0 c =
    λ table chain ec lim en. row-outside table _ chain _ _ _ _ _ c.requires.columns_in_bounds c.outside.ensures.wide_row
    c.outside.ensures.result_value ec lim en c.if-outside-ne0.true

pub returns-then-nulls-eq0 : goal.returns-then-nulls-eq0
returns-then-nulls-eq0 c =
    λ table chain ec lim en. row_plain table _ chain _ _ _ _ _ c.requires.columns_in_bounds c.outside.ensures.wide_row c.outside.ensures.result_value ec lim en c.if-outside-ne0.false c.if-nulls-eq0.true

pub returns-then-not-marks_ok : goal.returns-then-not-marks_ok
returns-then-not-marks_ok c =
    λ table chain ec lim en. row-marks table _ chain _ c.args.row c.args.columns c.args.nulls c.outside.result c.requires.columns_in_bounds c.outside.ensures.wide_row c.outside.ensures.result_value ec lim en c.marks_ok.result c.marks_ok.ensures (ap not c.if-not-marks_ok.true)

pub returns : goal.returns
returns c =
    λ table chain ec lim en. row-nulls table _ chain _ c.args.row c.args.columns c.args.nulls c.outside.result c.requires.columns_in_bounds c.outside.ensures.wide_row c.outside.ensures.result_value ec lim en c.if-outside-ne0.false c.marks_ok.result c.marks_ok.ensures (ap not c.if-not-marks_ok.false) c.null_values.result c.null_values.ensures
