use borrow.Author.Tests.{ne_eqb}
use Rattle.records.proofs.Laws.{flags}
use Rattle.record_check.specs.Step.{record_step}
use Rattle.record_check.proofs.step.record_step.Goals as goal

pub returns-then-f-ne0 : goal.returns-then-f-ne0
unfolding record_step
returns-then-f-ne0 c = rw (c.refused.ensures, ne_eqb _ _ c.if-f-ne0.true)

pub returns-in-1 : goal.returns-in-1
unfolding record_step
returns-in-1 c = search (flags, ← c.column_step.ensures, c.in-1.is)

pub returns-in-2 : goal.returns-in-2
unfolding record_step
returns-in-2 c = search (flags, ← c.literal_step.ensures, c.in-2.is)

pub returns-in-3 : goal.returns-in-3
unfolding record_step
returns-in-3 c = search (flags, ← c.null_step.ensures, c.in-3.is)

pub returns-in-4 : goal.returns-in-4
unfolding record_step
returns-in-4 c = search (flags, ← c.binary_step.ensures, c.in-4.is)

pub returns-in-5 : goal.returns-in-5
unfolding record_step
returns-in-5 c = search (flags, ← c.not_step.ensures, c.in-5.is)

pub returns-in-6 : goal.returns-in-6
unfolding record_step
returns-in-6 c = search (flags, ← c.null_test_step.ensures, c.in-6.is)

pub returns-in-7 : goal.returns-in-7
unfolding record_step
returns-in-7 c = search (flags, ← c.null_test_step-in-7.ensures, c.in-7.is)

pub returns-in-8 : goal.returns-in-8
unfolding record_step
returns-in-8 c = search (flags, ← c.between_step.ensures, c.in-8.is)

pub returns-in-9 : goal.returns-in-9
unfolding record_step
returns-in-9 c = search (flags, ← c.list_step.ensures, c.in-9.is)

pub returns-in-10 : goal.returns-in-10
unfolding record_step
returns-in-10 c = search (flags, ← c.member_step.ensures, c.in-10.is)

pub returns-in_default : goal.returns-in_default
unfolding record_step
returns-in_default c =
    let r = c.in_default.in_default-own.rest in
    rw (
      c.refused-in_default.ensures,
      ne_eqb _ _ r.0.0.0.0.0.0.0.0.0.1,
      ne_eqb _ _ r.0.0.0.0.0.0.0.0.1,
      ne_eqb _ _ r.0.0.0.0.0.0.0.1,
      ne_eqb _ _ r.0.0.0.0.0.0.1,
      ne_eqb _ _ r.0.0.0.0.0.1,
      ne_eqb _ _ r.0.0.0.0.1,
      ne_eqb _ _ r.0.0.0.1,
      ne_eqb _ _ r.0.0.1,
      ne_eqb _ _ r.0.1,
      ne_eqb _ _ r.1,
    ) (search flags)
