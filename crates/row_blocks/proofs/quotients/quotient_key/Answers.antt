use Rattle.std.proofs.Common.{refl, rules}
use Rattle.row_blocks.proofs.Parts.{quotient-part}
use Rattle.row_blocks.proofs.quotients.quotient_key.Goals as goal

pub returns : goal.returns
returns c =
    λ code ec. quotient-part c.args.p c.args.q c.pick-u.result c.pick-v.result c.dividend.result
    c.size_of.result c.turned_if.result _ _ c.pick-u.ensures c.pick-v.ensures c.dividend.ensures.0 c.dividend.ensures.1 c.size_of.ensures.q_value c.size_of.ensures.result_value c.turned_if.ensures refl refl c.biased.result (search rules) c.biased.ensures code ec
