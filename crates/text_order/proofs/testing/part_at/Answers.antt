use mathlib.Core.Path.{refl}
use Rattle.text_order.specs.Starts.{part_at}
use Rattle.text_order.proofs.testing.part_at.Goals as goal

pub returns : goal.returns
unfolding part_at
returns c = refl
