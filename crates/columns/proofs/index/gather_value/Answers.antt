use lib.ListN.{length-set}
use native.Mathlib.Omega.{arith}
use Rattle.columns.proofs.index.gather_value.Goals as goal

pub returns : goal.returns
returns c = omega (arith, c.if-values-n.false, length-set c.args.values.now c.args.n c.value_at.result)
