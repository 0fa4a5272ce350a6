use Rattle.std.proofs.Common.{rules}
use Rattle.row_blocks.proofs.Parts.{dividend_is}
use Rattle.row_blocks.proofs.quotients.dividend.Goals as goal

pub returns : goal.returns
returns c =
    dividend_is c.args.u c.args.v c.wrapping_sub_u64.result c.turned_if.result (search rules)
    c.wrapping_sub_u64.ensures.value c.turned_if.ensures (search rules)
