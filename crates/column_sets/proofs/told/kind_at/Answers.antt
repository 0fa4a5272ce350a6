use Rattle.column_constraints.proofs.Words.{kind-read, kind-past}
use Rattle.column_sets.proofs.told.kind_at.Goals as goal

pub returns-then-j-told : goal.returns-then-j-told
returns-then-j-told c = kind-read c.args.told.now c.args.j c.if-j-told.true

pub returns : goal.returns
returns c = kind-past c.args.told.now c.args.j c.if-j-told.false
