use native.Mathlib.Omega.{arith}
use Rattle.merge.proofs.Splices.{splice-then}
use Rattle.rewrite.proofs.write.put_value.Goals as goal

pub returns : goal.returns
returns c =
    splice-then _ _ _ _ _ c.put_word.ensures c.put_word-2.ensures (omega arith) (omega (arith, c.requires))
