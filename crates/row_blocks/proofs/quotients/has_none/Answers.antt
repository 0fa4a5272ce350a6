use Rattle.row_blocks.specs.Parts.{has_none}
use Rattle.std.proofs.Common.{rules}
use Rattle.row_blocks.proofs.quotients.has_none.Goals as goal

pub returns : goal.returns
unfolding has_none
returns c = search rules
