use Rattle.records.proofs.Loops.{all_none, all_more, all_fails, all_done}
use borrow.Author.Tests.{not-true, not-false}
use mathlib.Core.Bool.{true}
use mathlib.Core.Path.{sym, ◌∙◌}
use Rattle.merge.specs.Plain.{plain_conjunct}
use borrow.Author.Rules.{rules}
use mathlib.Core.Path.{ap}
use mathlib.Core.Bool.{not}
use Rattle.plain.proofs.plain_conjuncts.Goals as goal

pub loop-i-init : goal.loop-i-init
loop-i-init c = (search rules, λ p. all_none _)

pub returns-then-not-plain_conjunct : goal.returns-then-not-plain_conjunct
returns-then-not-plain_conjunct c =
    λ p. all_fails _ _ _ c.loop-i-test.true (sym (c.plain_conjunct.ensures p) ∙ not-true _ (ap not c.if-not-plain_conjunct.true))

pub loop-i-preserved : goal.loop-i-preserved
loop-i-preserved c =
    (search rules, λ p. all_more _ _ (c.loop-i.invariant.1 p) (sym (c.plain_conjunct.ensures p) ∙ not-false _ (ap not c.if-not-plain_conjunct.false)))

pub returns : goal.returns
returns c = λ p. all_done _ _ _ c.loop-i.invariant.0 c.loop-i-test.false (c.loop-i.invariant.1 p)
