use native.Mathlib.Omega.{arith}
use mathlib.Core.Path.{sym, ◌∙◌}
use lib.ListN.{length-set}
use borrow.Author.Tests.{not-true, not-false}
use Rattle.records.specs.Record.{fields_at}
use Rattle.ranked_chain.proofs.RaisedLists.{list-kept, list-raised, list-kind}
use mathlib.Core.Path.{ap}
use mathlib.Core.Bool.{not}
use Rattle.ranked_chain.proofs.lists.raise_list.Goals as goal

pub returns-then-not-is_number_list : goal.returns-then-not-is_number_list
returns-then-not-is_number_list c = list-kept _ _ _ (sym c.is_number_list.ensures ∙ not-true _ (ap not c.if-not-is_number_list.true))

pub overflow_add-start : goal.overflow_add-start
unfolding fields_at
overflow_add-start c =
    let a = c.requires.i_bound_2 (list-kind _ (sym c.is_number_list.ensures ∙ not-false _ (ap not c.if-not-is_number_list.false))) in
    omega (arith, a, c.word_in.ensures, c.requires.i_bound.1)

pub overflow_cast-out-2 : goal.overflow_cast-out-2
unfolding fields_at
overflow_cast-out-2 c =
    let a = c.requires.i_bound_2 (list-kind _ (sym c.is_number_list.ensures ∙ not-false _ (ap not c.if-not-is_number_list.false))) in
    omega (arith, a, c.word_in.ensures, c.requires.i_bound.1)

pub bounds-out-at-2 : goal.bounds-out-at-2
bounds-out-at-2 c = simp length-set (omega (arith, c.requires.i_bound.2))

pub returns : goal.returns
unfolding fields_at
returns c =
    let k = sym c.is_number_list.ensures ∙ not-false _ (ap not c.if-not-is_number_list.false) in
    list-raised _ _ _ c.requires.i_bound.2 _ (omega (arith, c.word_in.ensures)) k (c.requires.i_bound_2 (list-kind _ k))
