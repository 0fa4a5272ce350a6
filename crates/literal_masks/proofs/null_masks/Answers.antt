use mathlib.Core.Path.{refl}
use Rattle.masks.proofs.Literals.{null_tells}
use Rattle.literal_masks.proofs.null_masks.Goals as goal

pub returns : goal.returns
returns c = λ columns values chain c base rows s. null_tells columns values chain c base rows _ s _ refl refl
