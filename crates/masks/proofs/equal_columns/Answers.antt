use mathlib.Core.Path.{refl}
use Rattle.masks.proofs.Columns.{equal-columns_tell}
use Rattle.masks.proofs.equal_columns.Goals as goal

pub returns : goal.returns
returns c =
    λ rows value second s q. equal-columns_tell rows _ _ _ _ _ value second s q _ _ _ c.inverted.ensures refl
    refl c.mask_equal_pairs-m.ensures
