use native.Mathlib.Omega.{arith}
use mathlib.Core.Path.{ap}
use Prim.Native.Nat.{◌+◌, ◌/◌, ◌%◌}
use lib.Bits.{bit_or}
use lib.ListN.{get_or}
use Rattle.checking.proofs.Bits.{one_shifted}
use Rattle.sorted.proofs.Putting.{put_word}
use Rattle.sorted.proofs.bits.put.Goals as goal

pub returns : goal.returns
returns c =
    let x = get_or c.args.sets.now (c.args.at + c.args.place / 64) 0 in
    put_word _ _ _ _ c.requires (ap (bit_or x) (one_shifted (c.args.place % 64) (omega arith)))
