use Rattle.record_check.specs.Step.{only_a}
use Prim.Native.Nat.{◌%◌}
use lib.ListN.{get_or}
use native.Mathlib.Omega.{arith}
use borrow.Author.Tests.{lt-ltb, le-ltb, not-false}
use Rattle.records.proofs.Laws.{flags}
use Rattle.record_check.specs.Step.{null_test_step}
use mathlib.Core.Path.{ap}
use mathlib.Core.Bool.{not}
use Rattle.record_check.proofs.step.null_test_step.Goals as goal

pub returns-then-not-f : goal.returns-then-not-f
unfolding null_test_step
returns-then-not-f c = search (flags, ← c.refused.ensures)

pub returns-then-n-f : goal.returns-then-n-f
unfolding null_test_step
returns-then-n-f c = search (flags, ← c.refused-then-n-f.ensures)

pub returns-then-types-a-eq0 : goal.returns-then-types-a-eq0
unfolding null_test_step
returns-then-types-a-eq0 c =
    let f = c.args.f in
    rw (
      c.refused-then-types-a-eq0.ensures,
      not-false (only_a f) (ap not c.if-not-f.false),
      lt-ltb _ _ c.if-n-f.false,
      le-ltb 0 (get_or c.args.types.now f.a 0 % 8) (omega (arith, c.if-types-a-eq0.true)),
    )

pub returns : goal.returns
unfolding null_test_step
returns c =
    let f = c.args.f in
    rw (
      c.passed.ensures,
      not-false (only_a f) (ap not c.if-not-f.false),
      lt-ltb _ _ c.if-n-f.false,
      lt-ltb 0 (get_or c.args.types.now f.a 0 % 8) (omega (arith, c.if-types-a-eq0.false)),
      c.wide.ensures.same,
    )
