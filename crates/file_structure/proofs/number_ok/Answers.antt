use Rattle.file_structure.specs.Read.{number_ok}
use Rattle.file_structure.proofs.number_ok.Goals as goal

pub returns : goal.returns
unfolding number_ok
returns c = c.same_number.ensures
