use mathlib.Core.Path.{refl}
use Rattle.file_blocks.specs.Format.{repeats}
use Rattle.file_structure.proofs.repeats_kind.Goals as goal

pub returns : goal.returns
unfolding repeats
returns c = refl
