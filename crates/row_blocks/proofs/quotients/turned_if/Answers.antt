use Rattle.std.proofs.Common.{rules}
use Rattle.row_blocks.proofs.Parts.{turned-is}
use Rattle.row_blocks.proofs.quotients.turned_if.Goals as goal

pub returns : goal.returns
returns c = turned-is c.args.t c.args.x c.pick.result (search rules) c.pick.ensures
