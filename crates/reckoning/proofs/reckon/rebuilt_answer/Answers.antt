use Rattle.reckoning.proofs.Reckoning.{reckoned-law}
use borrow.Author.Tests.{le-leb, lt-leb, not-true, not-false}
use mathlib.Core.Bool.{true, false}
use mathlib.Core.Path.{refl, sym, ◌∙◌}
use mathlib.Core.Path.{ap}
use mathlib.Core.Bool.{not}
use Rattle.reckoning.proofs.reckon.rebuilt_answer.Goals as goal

pub returns-then-not-room_for : goal.returns-then-not-room_for
returns-then-not-room_for c =
    sym (reckoned-law c.args.len c.args.trees.now c.args.nodes.now c.args.used c.args.kept
    c.args.total false _ _ (sym (not-true _ (ap not c.if-not-room_for.true)) ∙ c.room_for.ensures) refl refl)

pub returns-then-kept_trees-added-gt4096 : goal.returns-then-kept_trees-added-gt4096
returns-then-kept_trees-added-gt4096 c =
    sym (reckoned-law c.args.len c.args.trees.now c.args.nodes.now c.args.used c.args.kept
    c.args.total true false _
    (sym (not-false _ (ap not c.if-not-room_for.false)) ∙ c.room_for.ensures)
    c.kept_trees.ensures.value (sym (lt-leb _ _ c.if-kept_trees-added-gt4096.true)))

pub returns : goal.returns
returns c =
    sym (reckoned-law c.args.len c.args.trees.now c.args.nodes.now c.args.used c.args.kept
    c.args.total true true _
    (sym (not-false _ (ap not c.if-not-room_for.false)) ∙ c.room_for.ensures)
    c.kept_trees.ensures.value (sym (le-leb _ _ c.if-kept_trees-added-gt4096.false)))
