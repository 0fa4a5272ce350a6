use borrow.Author.Tests.{eq-eqb, ne_eqb}
use Rattle.columns.proofs.comparisons.at_place.Goals as goal

pub returns-then-p-eq0 : goal.returns-then-p-eq0
returns-then-p-eq0 c = λ t e f. rw (c.at_lower.ensures, eq-eqb _ _ c.if-p-eq0.true)

pub returns-then-p-eq1 : goal.returns-then-p-eq1
returns-then-p-eq1 c = λ t e f. rw (c.at_upper.ensures, ne_eqb _ _ c.if-p-eq0.false, eq-eqb _ _ c.if-p-eq1.true)

pub returns : goal.returns
returns c =
    λ t e f. rw (c.at_mark.ensures, c.byte.ensures, e, f, ne_eqb _ _ c.if-p-eq0.false, ne_eqb _ _ c.if-p-eq1.false)
