use Rattle.file_structure.specs.Read.{used_ok}
use Rattle.file_structure.proofs.used_ok.Goals as goal

pub returns : goal.returns
unfolding used_ok
returns c = rw (c.end_word.ensures, c.total_of.ensures)
