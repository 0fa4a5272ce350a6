use mathlib.Core.Path.{refl}
use Rattle.masks.proofs.Tables.{not-tells}
use Rattle.masks.proofs.not_masks.Goals as goal

pub returns : goal.returns
returns c = λ rows f hx. not-tells rows _ f hx _ c.inverted.ensures refl
