use Rattle.std.proofs.Common.{refl, arith}
use Rattle.masks.specs.Masks.{is_null, is_key}
use Rattle.row_blocks.proofs.operand.value_key.Goals as goal

pub returns-in-None : goal.returns-in-None
returns-in-None c = rw c.in-None.is (is_null refl refl)

pub returns-in-Some : goal.returns-in-Some
returns-in-Some c = rw c.in-Some.is (is_key c.in-Some.bits.0 (omega arith) refl c.biased.ensures refl)
