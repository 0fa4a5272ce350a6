use Rattle.constraints.specs.Payload.{payload}
use Rattle.column_constraints.proofs.bound.same.Goals as goal

pub returns : goal.returns
unfolding payload
returns c = rw (← c.scalar_cmp.ensures) c.is_eq.ensures
