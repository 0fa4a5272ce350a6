use Rattle.write_places.proofs.Writing.{null_unread, null_read}
use mathlib.Core.Path.{ap}
use mathlib.Core.Bool.{not}
use Rattle.write_places.proofs.is_shown_null.Goals as goal

pub returns-then-not-has_entered : goal.returns-then-not-has_entered
returns-then-not-has_entered c = rw (← c.has_entered.ensures) (null_unread c.has_entered.result _ (ap not c.if-not-has_entered.true))

pub returns : goal.returns
returns c =
    rw (← c.has_entered.ensures) (null_read c.has_entered.result _ _ (ap not c.if-not-has_entered.false) c.is_null.ensures)
