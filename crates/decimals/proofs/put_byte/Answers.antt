use native.Mathlib.Omega.{arith}
use Rattle.merge.proofs.Splices.{splice-one}
use Rattle.decimals.proofs.put_byte.Goals as goal

pub returns : goal.returns
returns c = splice-one _ _ _ (omega arith)
