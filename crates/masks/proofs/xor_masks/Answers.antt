use mathlib.Core.Path.{refl}
use Rattle.masks.proofs.Tables.{xor_tells}
use Rattle.masks.proofs.xor_masks.Goals as goal

pub returns : goal.returns
returns c = λ rows f g hx hy. xor_tells rows _ _ f g hx hy _ _ c.inverted.ensures refl refl
