use Rattle.column_sets.proofs.marks.is_excluded_by.Goals as goal

pub returns : goal.returns
returns c = rw (c.same.ensures, c.kind_at.ensures, c.literal_at-w.ensures)
