use native.Mathlib.Omega.{arith}
use Rattle.pool_order.proofs.Answers.{some-seat, asked-absent, asked-there}
use Rattle.pool_order.proofs.asking.holds_from.Goals as goal

pub returns-then-r-k : goal.returns-then-r-k
returns-then-r-k c = asked-absent c.requires.full _ _ _ c.requires.count_in_bounds _ c.if-r-k.true c.find_from-r.ensures

pub has_between_from-requires : goal.has_between_from-requires
has_between_from-requires c =
    record { rising = c.requires.full.seated; count_nonzero = some-seat c.requires.full; count_in_bounds = omega (arith, c.requires.full.seats, c.requires.in_bounds) }

pub returns : goal.returns
returns c =
    asked-there c.requires.full _ _ _ c.requires.count_in_bounds _ c.if-r-k.false c.find_from-r.ensures _ c.has_between_from.ensures
