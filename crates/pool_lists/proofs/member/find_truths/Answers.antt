use mathlib.Core.Path.{refl}
use Rattle.pool_lists.proofs.Members.{truths-found}
use Rattle.pool_lists.proofs.member.find_truths.Goals as goal

pub find_one-requires : goal.find_one-requires
find_one-requires c = record { ordered_part = c.requires.ordered_part; count_in_bounds = c.requires.count_in_bounds }

pub find_one-requires-2 : goal.find_one-requires-2
find_one-requires-2 c = record { ordered_part = c.requires.ordered_part; count_in_bounds = c.requires.count_in_bounds }

pub returns : goal.returns
returns c =
    λ keys at t. truths-found keys at _ _ _ _ _ _ _ _ c.find_one.ensures c.find_one-2.ensures c.all_if-one.ensures
    c.all_if-zero.ensures refl t
