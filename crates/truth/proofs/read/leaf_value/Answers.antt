use borrow.Author.Tests.{ne_eqb}
use Rattle.truth.specs.Evaluate.{leaf_of}
use Rattle.truth.proofs.read.leaf_value.Goals as goal

pub column_value-requires : goal.column_value-requires
column_value-requires c = c.requires c.if-f-eq1.true

pub returns-then-f-eq1 : goal.returns-then-f-eq1
unfolding leaf_of
returns-then-f-eq1 c = rw c.if-f-eq1.true c.column_value.ensures

pub returns-then-f-eq2 : goal.returns-then-f-eq2
unfolding leaf_of
returns-then-f-eq2 c = rw c.if-f-eq2.true

pub returns : goal.returns
unfolding leaf_of
returns c = rw (ne_eqb _ _ c.if-f-eq1.false, ne_eqb _ _ c.if-f-eq2.false)
