use Rattle.record_check.specs.Step.{only_a}
use borrow.Author.Tests.{lt-ltb, not-false}
use Rattle.records.proofs.Laws.{flags}
use Rattle.record_check.specs.Step.{not_step}
use mathlib.Core.Path.{ap}
use mathlib.Core.Bool.{not}
use Rattle.record_check.proofs.step.not_step.Goals as goal

pub returns-then-not-f : goal.returns-then-not-f
unfolding not_step
returns-then-not-f c = search (flags, ← c.refused.ensures)

pub returns-then-n-f : goal.returns-then-n-f
unfolding not_step
returns-then-n-f c = search (flags, ← c.refused-then-n-f.ensures)

pub returns-then-types-a-ne3 : goal.returns-then-types-a-ne3
unfolding not_step
returns-then-types-a-ne3 c = search (flags, ← c.refused-then-types-a-ne3.ensures)

pub returns : goal.returns
unfolding not_step
returns c =
    rw (
      c.passed.ensures,
      not-false (only_a c.args.f) (ap not c.if-not-f.false),
      lt-ltb _ _ c.if-n-f.false,
      c.if-types-a-ne3.false,
      c.wide.ensures.same,
    )
