use Rattle.std.proofs.Common.{◌≡◌, true}
use Rattle.records.specs.Bytes.{all}
use Rattle.chain_rows.specs.Classes.{row_fits}
use Rattle.chain_rows.proofs.fitting.rows_fit.Given as goal

abbrev pub invariant-loop-r : goal.invariant-loop-r
invariant-loop-r l = all (row_fits l.table l.values l.nulls) l.r ≡ true
