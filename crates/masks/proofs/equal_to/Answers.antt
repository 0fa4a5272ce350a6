use mathlib.Core.Path.{refl}
use Rattle.masks.proofs.Columns.{equal-to_tells}
use Rattle.masks.proofs.equal_to.Goals as goal

pub returns : goal.returns
returns c =
    λ rows value b s h e. equal-to_tells rows _ _ _ _ value b s h e _ _ _ c.inverted.ensures refl refl c.mask_equal-m.ensures
