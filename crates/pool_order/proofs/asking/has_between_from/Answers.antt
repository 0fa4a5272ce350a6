use native.Mathlib.Omega.{arith}
use mathlib.Core.Path.{refl}
use Rattle.records.proofs.Loops.{flag_yes}
use Rattle.pool_order.proofs.Answers.{between-told}
use mathlib.Core.Path.{ap}
use mathlib.Core.Bool.{not}
use Rattle.pool_order.proofs.asking.has_between_from.Goals as goal

pub has_between-requires : goal.has_between-requires
has_between-requires c =
    record { rising = c.requires.rising; count_nonzero = c.requires.count_nonzero; count_in_bounds = c.requires.count_in_bounds }

pub returns-then-count-q : goal.returns-then-count-q
returns-then-count-q c = c.has_between.ensures

pub is_last-requires : goal.is_last-requires
is_last-requires c =
    record { rising = c.requires.rising; q_lt_count = omega (arith, c.if-count-q.false); count_in_bounds = c.requires.count_in_bounds }

pub has_between-requires-then-not-is_last : goal.has_between-requires-then-not-is_last
has_between-requires-then-not-is_last c =
    record { rising = c.requires.rising; count_nonzero = c.requires.count_nonzero; count_in_bounds = c.requires.count_in_bounds }

pub returns-then-not-is_last : goal.returns-then-not-is_last
returns-then-not-is_last c = c.has_between-then-not-is_last.ensures

pub returns : goal.returns
returns c =
    between-told c.requires.rising (c.is_last.ensures (flag_yes refl (ap not c.if-not-is_last.false))) (omega arith)
