use Rattle.std.proofs.Common.{sym, true≢false, eqb-true}
use Rattle.row_blocks.proofs.Telling.{is_kind_lem}
use Rattle.row_blocks.proofs.lines.is_kind.Goals as goal

pub returns-then-n-m : goal.returns-then-n-m
returns-then-n-m c = λ e. absurd (true≢false (sym e))

pub returns : goal.returns
returns c = λ e. is_kind_lem _ _ _ _ c.fields_in-f.ensures (eqb-true _ _ e)
