use Rattle.std.proofs.Common.{sym, ◌∙◌, true≢false, leb-true}
use Rattle.row_blocks.proofs.Worths.{free_division}
use Rattle.row_blocks.proofs.quotients.divides.Goals as goal

pub returns-then-f-ne4 : goal.returns-then-f-ne4
returns-then-f-ne4 c = λ e. absurd (true≢false (sym e))

pub returns-then-is_kept : goal.returns-then-is_kept
returns-then-is_kept c = λ e. absurd (true≢false (sym e))

pub returns : goal.returns
returns c =
    λ e. let d = free_division _ c.if-f-ne4.false (sym c.is_kept.ensures ∙ c.if-is_kept.false) in (
      c.if-f-ne4.false,
      d.0,
      d.1,
      leb-true _ _ e,
    )
