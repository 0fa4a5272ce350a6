use Rattle.constraints.specs.Lined.{lined}
use Rattle.column_constraints.proofs.bound.compare.Goals as goal

pub returns : goal.returns
unfolding lined
returns c = c.scalar_cmp.ensures
