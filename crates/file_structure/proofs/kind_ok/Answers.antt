use mathlib.Core.Path.{refl}
use Rattle.file_structure.specs.Read.{kind_ok, kind_of}
use Rattle.file_structure.proofs.kind_ok.Goals as goal

pub returns : goal.returns
unfolding kind_ok kind_of
returns c = refl
