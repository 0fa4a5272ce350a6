use Rattle.file_structure.specs.Read.{content_size, kind_of}
use Rattle.file_structure.proofs.content_size.Goals as goal

pub returns : goal.returns
unfolding content_size kind_of
returns c = rw (← c.count_in-count.ensures) c.items_size.ensures
