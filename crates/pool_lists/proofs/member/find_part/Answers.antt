use Rattle.pool_lists.proofs.member.find_part.Goals as goal

pub find_first-requires : goal.find_first-requires
find_first-requires c =
    record { ordered_part = c.requires.ordered.whole c.if-pool-le65536.true; count_in_bounds = c.requires.count_in_bounds; in_bounds = c.requires.in_bounds; le_hints = c.requires.le_hints; hints_bound = c.requires.hints_bound }
