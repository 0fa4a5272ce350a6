use Rattle.file_structure.specs.Read.{count_ok, kind_of}
use Rattle.file_structure.proofs.count_ok.Goals as goal

pub returns : goal.returns
unfolding count_ok kind_of
returns c = rw (c.capacity_of-most.ensures, c.count_in-count.ensures)
