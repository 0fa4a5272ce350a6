use Rattle.column_constraints.specs.Abstraction.{list_of}
use Rattle.column_sets.proofs.marks.listed.Goals as goal

pub returns : goal.returns
unfolding list_of
returns c = rw (c.in_list.ensures, c.count_at-n.ensures, c.start_at-s.ensures)
