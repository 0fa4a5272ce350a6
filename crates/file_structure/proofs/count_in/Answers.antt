use Rattle.file_structure.specs.Read.{count_of}
use Rattle.file_structure.proofs.count_in.Goals as goal

pub returns : goal.returns
unfolding count_of
returns c = c.two_bytes.ensures
