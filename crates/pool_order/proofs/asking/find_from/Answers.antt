use Rattle.pool_order.proofs.Answers.{found_nowhere}
use Rattle.pool_order.proofs.asking.find_from.Goals as goal

pub returns-then-is_gap : goal.returns-then-is_gap
returns-then-is_gap c = found_nowhere (c.is_gap.ensures c.if-is_gap.true)
