use Rattle.std.proofs.Common.{refl, arith}
use Rattle.row_blocks.proofs.Telling.{words_none, words_more, words_skip, words_done}
use Rattle.row_blocks.proofs.lines.null_words.Goals as goal
use Rattle.row_blocks.proofs.lines.null_words.Goals.{then-marks-ne0, else-marks-ne0}

pub loop-i-init : goal.loop-i-init
loop-i-init c = words_none _ _ _ _ c.requires.by_index

pub loop-i-preserved : goal.loop-i-preserved
loop-i-preserved c =
    elim c.if-marks-ne0.branch [
      | then-marks-ne0 w ↦ rw w.words-is (words_more _ _ _ _ _ _ _ refl w.mark_row.ensures c.loop-i.invariant)
      | else-marks-ne0 w ↦ rw w.words-is (words_skip _ _ _ _ _ _ refl w.if-marks-ne0.false c.loop-i.invariant)
    ]

pub returns : goal.returns
returns c = words_done _ _ _ _ _ _ (omega arith) c.loop-i.invariant
