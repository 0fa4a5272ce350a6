use Rattle.column_constraints.proofs.bound.new_value.Goals as goal

pub returns : goal.returns
returns c = rw c.bound_at.ensures
