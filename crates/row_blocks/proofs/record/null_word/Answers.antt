use Rattle.std.proofs.Common.{refl}
use Rattle.masks.proofs.Comparing.{null_tells}
use Rattle.row_blocks.proofs.record.null_word.Goals as goal

pub returns : goal.returns
returns c = λ rows keys at v s. null_tells rows keys at _ v _ refl refl s
