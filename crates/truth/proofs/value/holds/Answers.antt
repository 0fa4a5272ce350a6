use borrow.Author.Tests.{ne_eqb}
use Rattle.truth.specs.Evaluate.{comparison_at}
use Rattle.truth.proofs.Comparisons.{is_ne_lem, is_le_lem, is_ge_lem}
use Rattle.truth.proofs.value.holds.Goals as goal

pub returns-in-0 : goal.returns-in-0
unfolding comparison_at
returns-in-0 c = rw c.in-0.is c.is_eq.ensures

pub returns-in-2 : goal.returns-in-2
unfolding comparison_at
returns-in-2 c = rw (c.in-2.is, c.is_ne.ensures) (is_ne_lem c.args.o)

pub returns-in-4 : goal.returns-in-4
unfolding comparison_at
returns-in-4 c = rw c.in-4.is c.is_lt.ensures

pub returns-in-5 : goal.returns-in-5
unfolding comparison_at
returns-in-5 c = rw (c.in-5.is, c.is_le.ensures) (is_le_lem c.args.o)

pub returns-in-6 : goal.returns-in-6
unfolding comparison_at
returns-in-6 c = rw c.in-6.is c.is_gt.ensures

pub returns-in_default : goal.returns-in_default
unfolding comparison_at
returns-in_default c =
    let k = c.in_default.in_default-own.rest in
    rw (
      ne_eqb _ _ k.0.0.0.0.1,
      ne_eqb _ _ k.0.0.0.1,
      ne_eqb _ _ k.0.0.1,
      ne_eqb _ _ k.0.1,
      ne_eqb _ _ k.1,
      c.is_ge.ensures,
    ) (is_ge_lem c.args.o)
