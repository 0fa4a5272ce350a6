use Rattle.pool_order.proofs.Answers.{below_all, below_half, between-told}
use Rattle.pool_order.proofs.asking.has_between.Goals as goal

pub loop-len-init : goal.loop-len-init
loop-len-init c = below_all _ _ _ c.requires.count_nonzero

pub loop-len-preserved : goal.loop-len-preserved
loop-len-preserved c = below_half c.requires.rising c.loop-len.invariant c.loop-len-test.true _ c.advance-lo.ensures

pub returns : goal.returns
returns c = between-told c.requires.rising c.loop-len.invariant c.loop-len-test.false
