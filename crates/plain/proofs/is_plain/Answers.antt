use mathlib.Core.Path.{◌∙◌}
use borrow.Author.Tests.{not-true, not-false}
use Rattle.plain.proofs.Screens.{numbers-none, numbers-some}
use mathlib.Core.Path.{ap}
use mathlib.Core.Bool.{not}
use Rattle.plain.proofs.is_plain.Goals as goal

pub returns-then-not-only_numbers : goal.returns-then-not-only_numbers
returns-then-not-only_numbers c =
    λ p used ok are. numbers-none c.args.t.now c.args.rs.now p used c.args.root.0 ok c.requires.0 c.args.nodes.now c.args.n are _ _ c.columns_word.ensures c.only_numbers.ensures (not-true _
    (ap not c.if-not-only_numbers.true))

pub returns : goal.returns
returns c =
    λ p used ok are. c.plain_conjuncts.ensures p ∙ numbers-some c.args.t.now c.args.rs.now p used c.args.root.0 ok c.requires.0 c.args.nodes.now c.args.n are _ _ c.columns_word.ensures
    c.only_numbers.ensures (not-false _ (ap not c.if-not-only_numbers.false))
