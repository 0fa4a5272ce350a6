use Rattle.column_constraints.proofs.Words.{list_held, list-none, list-past}
use Rattle.column_sets.proofs.told.list_at.Goals as goal

pub returns-then-k : goal.returns-then-k
returns-then-k c = list_held c.args.told.now c.args.j c.if-j-told.true c.if-k.true

pub returns-then-j-told : goal.returns-then-j-told
returns-then-j-told c = list-none c.args.told.now c.args.j c.if-j-told.true c.if-k.false

pub returns : goal.returns
returns c = list-past c.args.told.now c.args.j c.if-j-told.false
