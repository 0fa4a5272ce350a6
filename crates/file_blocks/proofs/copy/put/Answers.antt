use native.Mathlib.Omega.{arith}
use Rattle.file_blocks.proofs.Lists.{lent_back}
use Rattle.file_blocks.proofs.copy.put.Goals as goal

pub returns : goal.returns
returns c = rw c.copy_front.ensures (lent_back c.args.dst.now c.args.at c.args.src.now (omega arith))
