use borrow.Author.Tests.{eq-eqb, ne_eqb}
use Rattle.column_sets.proofs.marks.is_barred_by.Goals as goal

pub returns-then-kind_at-ne1 : goal.returns-then-kind_at-ne1
returns-then-kind_at-ne1 c = rw (← c.kind_at.ensures, ne_eqb _ _ c.if-kind_at-ne1.true)

pub returns : goal.returns
returns c = rw (← c.kind_at.ensures, eq-eqb _ _ c.if-kind_at-ne1.false, c.listed.ensures)
