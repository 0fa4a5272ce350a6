use Rattle.record_check.specs.Step.{member_shape}
use borrow.Author.Tests.{lt-ltb, not-false}
use Prim.Native.Nat.{◌%◌, ◌*◌}
use mathlib.Core.Bool.{◌&&◌}
use lib.Dec.{ltb, eqb}
use lib.ListN.{get_or}
use Rattle.records.proofs.Laws.{flags}
use Rattle.record_check.specs.Step.{member_step}
use mathlib.Core.Path.{ap}
use mathlib.Core.Bool.{not}
use Rattle.record_check.proofs.step.member_step.Goals as goal

pub returns-then-not-f : goal.returns-then-not-f
unfolding member_step
returns-then-not-f c = search (flags, ← c.refused.ensures)

pub returns-then-n-f : goal.returns-then-n-f
unfolding member_step
returns-then-n-f c = search (flags, ← c.refused-then-n-f.ensures)

pub returns-then-n-f-2 : goal.returns-then-n-f-2
unfolding member_step
returns-then-n-f-2 c = search (flags, ← c.refused-then-n-f-2.ensures)

pub returns-then-not-x-types : goal.returns-then-not-x-types
unfolding member_step
returns-then-not-x-types c = search (flags, ← c.refused-then-not-x-types.ensures)

pub returns : goal.returns
unfolding member_step
returns c =
    let f = c.args.f in
    let types = c.args.types.now in
    rw (
      c.passed.ensures,
      not-false (member_shape f) (ap not c.if-not-f.false),
      lt-ltb _ _ c.if-n-f.false,
      lt-ltb _ _ c.if-n-f-2.false,
      not-false (ltb 0 (get_or types f.a 0 % 8) && eqb (get_or types f.b 0) (8 * (get_or types f.a 0 % 8))) (ap not c.if-not-x-types.false),
      c.wide.ensures.same,
      c.wide-2.ensures.same,
    )
