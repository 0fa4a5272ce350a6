use Rattle.file_structure.specs.Read.{checksum_ok}
use Rattle.file_structure.proofs.checksum_ok.Goals as goal

pub returns : goal.returns
unfolding checksum_ok
returns c = rw (← c.block_checksum-sum.ensures) c.same_sum.ensures
