use mathlib.Core.Path.{refl}
use Rattle.file_blocks.specs.Format.{word_bytes}
use Rattle.save_screen.proofs.end_bytes.Goals as goal

pub returns : goal.returns
unfolding word_bytes
returns c = refl
