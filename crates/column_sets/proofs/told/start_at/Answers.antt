use Rattle.column_constraints.proofs.Words.{start-read}
use Rattle.column_sets.proofs.told.start_at.Goals as goal

pub returns : goal.returns
returns c = rw c.list_at.ensures (start-read c.args.told.now c.args.j)
