use lib.ListN.{get_or-eq_default}
use Rattle.column_sets.proofs.marks.number_at.Goals as goal

pub returns : goal.returns
returns c = rw (get_or-eq_default _ _ c.if-i-words.false)
