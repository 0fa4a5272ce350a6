use borrow.Author.Rules.{rules}
use Rattle.records.specs.Shape.{in_pool}
use Rattle.value_types.proofs.in_pool.Goals as goal

pub returns : goal.returns
unfolding in_pool
returns c = search rules
