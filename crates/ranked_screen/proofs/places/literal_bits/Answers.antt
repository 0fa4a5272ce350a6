use Rattle.ranked_screen.proofs.Placing.{no_literal}
use borrow.Enum.Refused.{opened}
use Rattle.ranked_screen.proofs.places.literal_bits.Goals as goal

pub returns-in_default : goal.returns-in_default
returns-in_default c = no_literal c.args.r (opened c.in_default.in_default-own.keys2)
