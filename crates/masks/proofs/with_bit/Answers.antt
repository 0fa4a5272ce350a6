use mathlib.Core.Path.{ap}
use lib.Bits.{bit_or}
use Rattle.checking.proofs.Bits.{one_shifted}
use Rattle.masks.proofs.with_bit.Goals as goal

pub returns-then-b : goal.returns-then-b
returns-then-b c = rw c.if-b.true (ap (bit_or c.args.m) (one_shifted c.args.i c.requires))
