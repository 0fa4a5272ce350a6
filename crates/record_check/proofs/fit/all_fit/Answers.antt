use borrow.Author.Tests.{not-true, not-false}
use Rattle.records.proofs.Loops.{all_none, all_more, all_fails, all_done}
use borrow.Author.Rules.{rules}
use Rattle.record_check.specs.Fit.{all_fit_in}
use mathlib.Core.Path.{ap}
use mathlib.Core.Bool.{not}
use Rattle.record_check.proofs.fit.all_fit.Goals as goal

pub loop-k-init : goal.loop-k-init
loop-k-init c = (search rules, all_none _)

pub returns-then-not-in_type : goal.returns-then-not-in_type
unfolding all_fit_in
returns-then-not-in_type c =
    all_fails _ _ _ c.loop-k-test.true (rw (← c.value_in-v.ensures, ← c.in_type.ensures) (not-true _ (ap not c.if-not-in_type.true)))

pub loop-k-preserved : goal.loop-k-preserved
loop-k-preserved c =
    (search rules, all_more _ _ c.loop-k.invariant.1 (rw (← c.value_in-v.ensures, ← c.in_type.ensures) (not-false _ (ap not c.if-not-in_type.false))))

pub returns : goal.returns
unfolding all_fit_in
returns c = search all_done
