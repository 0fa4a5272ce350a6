use Rattle.column_constraints.proofs.Words.{value_read, value-past}
use Rattle.column_sets.proofs.told.word_at.Goals as goal

pub returns-then-j-told : goal.returns-then-j-told
returns-then-j-told c = value_read c.args.told.now c.args.j c.if-j-told.true

pub returns : goal.returns
returns c = value-past c.args.told.now c.args.j c.if-j-told.false
