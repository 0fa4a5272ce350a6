use mathlib.Core.Path.{refl}
use Rattle.masks.proofs.Comparing.{same-columns_tell}
use Rattle.compare_masks.proofs.same_columns.Goals as goal

pub returns : goal.returns
returns c =
    λ rows value second s q. same-columns_tell rows _ _ _ _ _ value second s q _ _ _ c.inverted.ensures refl
    refl c.mask_equal_pairs-m.ensures
