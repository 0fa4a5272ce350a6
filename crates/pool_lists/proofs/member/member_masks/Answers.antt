use mathlib.Core.Path.{refl}
use Rattle.pool_lists.proofs.Members.{member-tells}
use Rattle.pool_lists.proofs.member.member_masks.Goals as goal

pub returns : goal.returns
returns c =
    λ rows value s. member-tells _ _ _ rows _ _ _ _ _ _ _ _ _ _ c.find_part-found.ensures c.all_if-certain.ensures c.all_if-likely.ensures c.all_if-unsure.ensures c.inverted.ensures c.inverted-2.ensures refl refl value s
