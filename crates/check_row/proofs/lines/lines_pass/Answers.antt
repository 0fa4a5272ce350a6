use mathlib.Core.Bool.{true}
use borrow.Author.Tests.{not-true, not-false}
use Rattle.records.proofs.Loops.{all_none, all_more, all_fails, all_done}
use borrow.Author.Rules.{rules}
use mathlib.Core.Path.{ap}
use mathlib.Core.Bool.{not}
use Rattle.check_row.proofs.lines.lines_pass.Goals as goal

pub loop-i-init : goal.loop-i-init
loop-i-init c = (search rules, all_none _)

pub line_passes-requires : goal.line_passes-requires
line_passes-requires c = (c.requires.n_in_bounds.1, c.requires.by_index _ c.loop-i-test.true)

pub returns-then-not-line_passes : goal.returns-then-not-line_passes
returns-then-not-line_passes c =
    all_fails _ _ _ c.loop-i-test.true (rw (← c.line_passes.ensures) (not-true _ (ap not c.if-not-line_passes.true)))

pub loop-i-preserved : goal.loop-i-preserved
loop-i-preserved c =
    (search rules, all_more _ _ c.loop-i.invariant.1 (rw (← c.line_passes.ensures) (not-false _ (ap not c.if-not-line_passes.false))))

pub returns : goal.returns
returns c = search all_done
