use Rattle.std.proofs.Common.{eq-eqb, ne_eqb}
use Rattle.chain_rows.specs.Limits.{limit_mask}
use Rattle.chain_rows.proofs.fitting.limit_mask.Goals as goal

pub returns-then-ty-eq1 : goal.returns-then-ty-eq1
unfolding limit_mask
returns-then-ty-eq1 c = rw (eq-eqb _ 1 c.if-ty-eq1.true)

pub returns-then-ty-eq2 : goal.returns-then-ty-eq2
unfolding limit_mask
returns-then-ty-eq2 c = rw (ne_eqb _ 1 c.if-ty-eq1.false, eq-eqb _ 2 c.if-ty-eq2.true)

pub returns : goal.returns
unfolding limit_mask
returns c = rw (ne_eqb _ 1 c.if-ty-eq1.false, ne_eqb _ 2 c.if-ty-eq2.false)
