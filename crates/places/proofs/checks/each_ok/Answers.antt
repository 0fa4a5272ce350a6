use mathlib.Core.Bool.{true}
use borrow.Author.Tests.{not-true, not-false}
use Rattle.records.proofs.Loops.{all_none, all_more, all_fails, all_done}
use borrow.Author.Rules.{rules}
use mathlib.Core.Path.{ap}
use mathlib.Core.Bool.{not}
use Rattle.places.proofs.checks.each_ok.Goals as goal

pub loop-c-init : goal.loop-c-init
loop-c-init c = (search rules, all_none _)

pub returns-then-not-place_ok : goal.returns-then-not-place_ok
returns-then-not-place_ok c =
    all_fails _ _ _ c.loop-c-test.true (rw (
      ← c.value_at.ensures,
      ← c.value_at-in-loop-c.ensures,
      ← c.null_marked-null.ensures,
      ←
          c.place_ok.ensures,
    ) (not-true _ (ap not c.if-not-place_ok.true)))

pub loop-c-preserved : goal.loop-c-preserved
loop-c-preserved c = (
  search rules,
  all_more _ _ c.loop-c.invariant.1 (rw (
    ← c.value_at.ensures,
    ← c.value_at-in-loop-c.ensures,
    ← c.null_marked-null.ensures,
    ← c.place_ok.ensures,
  ) (not-false _ (ap not c.if-not-place_ok.false))),
)

pub returns : goal.returns
returns c = search all_done
