use native.Mathlib.Omega.{arith}
use lib.ListN.{length-set}
use Rattle.checking.specs.Columns.{columns_word}
use Rattle.record_check.proofs.Filling.{filled_more}
use Rattle.checking.proofs.Tables.{columns-turn}
use borrow.Author.Rules.{rules}
use Rattle.checking.proofs.reads.fill_words.Goals as goal

pub loop-i-init : goal.loop-i-init
loop-i-init c = (search rules, search rules, λ a h. absurd (omega arith))

pub loop-i-preserved : goal.loop-i-preserved
loop-i-preserved c =
    let rs = c.args.rs.now in (
      omega arith,
      simp length-set c.loop-i.invariant.1,
      filled_more (columns_word rs) c.loop-i.words c.loop-i.i c.columns_step-w.result (omega arith)
          c.loop-i.invariant.2
          (columns-turn rs c.loop-i.words c.loop-i.i c.columns_step-w.result c.loop-i.invariant.2 c.columns_step-w.ensures),
    )

pub returns : goal.returns
returns c = λ a h. c.loop-i.invariant.2 a (omega arith)
