use lib.ListN.{length}
use Prim.Native.Nat.{◌/◌, ◌-◌}
use Rattle.file_structure.specs.Read.{ends_ok, kind_of, end_of, blocks_in}
use Rattle.file_structure.proofs.Parts.{block-byte}
use native.Mathlib.Omega.{arith}
use Rattle.file_structure.proofs.ends_ok.Goals as goal

pub returns : goal.returns
unfolding ends_ok kind_of end_of blocks_in
returns c =
    rw (
      block-byte c.args.f.now 0 4 (omega arith),
      block-byte c.args.f.now (length c.args.f.now / 512 - 1) 4 (omega arith),
    )
