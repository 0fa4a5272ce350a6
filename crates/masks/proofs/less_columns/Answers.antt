use mathlib.Core.Path.{refl}
use Rattle.masks.proofs.Columns.{less-columns_tell}
use Rattle.masks.proofs.less_columns.Goals as goal

pub returns : goal.returns
returns c =
    λ rows value second s q. less-columns_tell rows _ _ _ _ _ value second s q _ _ _ c.inverted.ensures refl
    refl c.mask_less_pairs-m.ensures
