use Rattle.pool_lists.proofs.Members.{alike-found}
use Rattle.pool_lists.proofs.member.find_alike.Goals as goal

pub returns-then-mask_equal : goal.returns-then-mask_equal
returns-then-mask_equal c =
    alike-found _ _ _ c.mask_equal.result _ _ _ c.mask_equal.ensures c.if-mask_equal.true c.find_one.ensures c.all_if.ensures
