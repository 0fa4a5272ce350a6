use native.Mathlib.Omega.{arith}
use Rattle.checking.proofs.reads.columns_word.Goals as goal

pub returns-then-root-lt64 : goal.returns-then-root-lt64
returns-then-root-lt64 c = c.fill_words.ensures _ (omega arith)

pub returns : goal.returns
returns c = c.fill_words-2.ensures _ (omega arith)
