use native.Mathlib.Omega.{arith}
use Rattle.merge.proofs.Splices.{splice-then}
use Rattle.decimals.proofs.write_number.Goals as goal

pub returns : goal.returns
returns c =
    record { value = omega arith; s_after = splice-then _ _ _ _ _ c.write_digits.ensures c.put_byte.ensures (omega arith) (omega arith) }
