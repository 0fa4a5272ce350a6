use mathlib.Core.Path.{ap}
use Prim.Native.Nat.{ℕ}
use lib.ListN.{get_or}
use Rattle.column_sets.proofs.marks.set_of.Goals as goal

pub returns : goal.returns
returns c = λ h. ap (λ (x : ℕ). get_or c.args.index.now x 0) (c.place_in.ensures.value h)
