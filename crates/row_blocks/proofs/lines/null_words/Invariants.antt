use Rattle.row_blocks.proofs.Telling.{WordsTo}
use Rattle.row_blocks.proofs.lines.null_words.Given as goal

abbrev pub invariant-loop-i : goal.invariant-loop-i
invariant-loop-i l = WordsTo l.nulls l.columns l.base l.i l.words
