use Rattle.column_constraints.proofs.Words.{count-read}
use Rattle.column_sets.proofs.told.count_at.Goals as goal

pub returns : goal.returns
returns c = rw c.list_at.ensures (count-read c.args.told.now c.args.j)
