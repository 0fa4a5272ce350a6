use Rattle.std.proofs.Common.{eq-eqb, ne_eqb}
use Rattle.chain_rows.specs.Limits.{limit_bias}
use Rattle.chain_rows.proofs.fitting.limit_bias.Goals as goal

pub returns-then-ty-eq2 : goal.returns-then-ty-eq2
unfolding limit_bias
returns-then-ty-eq2 c = rw (eq-eqb _ 2 c.if-ty-eq2.true)

pub returns : goal.returns
unfolding limit_bias
returns c = rw (ne_eqb _ 2 c.if-ty-eq2.false)
