use native.Mathlib.Omega.{arith}
use lib.ListN.{get_or, length-set}
use Rattle.record_check.proofs.Filling.{filled_more}
use Rattle.numbered_screen.specs.Numbered.{number_byte}
use borrow.Author.Rules.{rules}
use Rattle.numbered_screen.proofs.number_records.Goals as goal

pub loop-i-init : goal.loop-i-init
loop-i-init c = (search rules, search rules, λ k h. absurd (omega (arith, h)))

pub loop-i-preserved : goal.loop-i-preserved
loop-i-preserved c = (
  search rules,
  simp length-set c.loop-i.invariant.1,
  filled_more (λ k. number_byte k (get_or c.args.rs.now k 0))
      c.loop-i.records c.loop-i.i _ (omega (arith, c.loop-i.invariant.1, c.requires.1, c.loop-i-test.true)) c.loop-i.invariant.2 c.number_byte.ensures,
)

pub shape_of-records : goal.shape_of-records
shape_of-records c = c.loop-i.invariant.1

pub returns : goal.returns
returns c = λ k h. c.loop-i.invariant.2 k (omega (arith, h, c.loop-i-test.false))
