use mathlib.Core.Path.{refl}
use Rattle.masks.proofs.Tables.{less-tells}
use Rattle.compare_masks.proofs.less_truths.Goals as goal

pub returns : goal.returns
returns c =
    λ rows f g hx hy. less-tells rows _ _ f g hx hy _ _ _ c.inverted.ensures c.inverted-2.ensures refl refl
