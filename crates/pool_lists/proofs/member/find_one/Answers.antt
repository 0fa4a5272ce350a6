use Rattle.pool_order.specs.Order.{OrderedPart}
use Rattle.pool_lists.proofs.member.find_one.Goals as goal

pub holds-requires : goal.holds-requires
unfolding OrderedPart
holds-requires c =
    record { full = c.requires.ordered_part c.if-order-lt16386.false; in_bounds = c.if-order-lt16386.false; count_in_bounds = c.requires.count_in_bounds }
