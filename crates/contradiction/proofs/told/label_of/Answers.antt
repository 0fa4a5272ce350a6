use mathlib.Core.Path.{ap}
use lib.ListN.{get_or}
use Rattle.contradiction.proofs.told.label_of.Goals as goal

pub returns : goal.returns
returns c = ap (λ w. get_or c.args.labels.now w 0) c.slot-x.ensures
