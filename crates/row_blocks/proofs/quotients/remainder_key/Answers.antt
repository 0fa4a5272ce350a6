use Rattle.std.proofs.Common.{ltb, refl, mod-lt, arith}
use Rattle.row_blocks.proofs.Parts.{remainder-part, rest-small}
use Rattle.row_blocks.proofs.quotients.remainder_key.Goals as goal

pub overflow_sub-size-2 : goal.overflow_sub-size-2
overflow_sub-size-2 c =
    let k = mod-lt c.dividend.result c.size_of-size.ensures.result_nonzero.0 in
    omega (arith, k, c.size_of-size.ensures.result_nonzero.0)

pub overflow_sub-m : goal.overflow_sub-m
overflow_sub-m c =
    let k = rest-small c.dividend.result c.size_of-size.result c.pick-m.result (ltb c.pick-u.result c.pick-v.result)
    c.size_of-size.ensures.result_nonzero.0 c.pick-m.ensures in
    omega (arith, k, c.size_of-size.ensures.result_nonzero.1)

pub returns : goal.returns
returns c =
    λ code nc. remainder-part c.args.p c.args.q c.pick-u.result c.pick-v.result c.dividend.result
    c.size_of-size.result _ c.pick-m.result _ c.pick-u.ensures c.pick-v.ensures c.dividend.ensures.0 c.dividend.ensures.1 c.size_of-size.ensures.q_value c.size_of-size.ensures.result_value refl c.pick-m.ensures refl c.pick.result
    c.biased.result c.size_of-size.ensures.result_nonzero.0 c.size_of-size.ensures.result_nonzero.1 c.biased.ensures c.pick.ensures code
    nc
