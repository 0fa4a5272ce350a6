use borrow.Author.Rules.{rules}
use mathlib.Core.Path.{sym}
use borrow.Author.Tests.{le-leb}
use Rattle.records.proofs.Laws.{flags}
use Rattle.record_check.specs.Fit.{list_ok_in}
use Rattle.record_check.specs.Outside.{Counts}
use Rattle.record_check.proofs.Lists.{all_ints}
use Rattle.record_check.proofs.fit.list_ok.Goals as goal

pub returns-then-p-end : goal.returns-then-p-end
unfolding list_ok_in
returns-then-p-end c = search flags

pub returns-then-ty-eq1 : goal.returns-then-ty-eq1
unfolding list_ok_in
returns-then-ty-eq1 c = rw (le-leb _ _ c.if-p-end.false, c.if-ty-eq1.true) (sym (all_ints _ _ _ _))

pub counts_fit-requires : goal.counts_fit-requires
unfolding Counts
counts_fit-requires c = record { count_in_bounds = search rules; counts_of = rw c.if-ty-eq2.true c.requires.0 }

pub returns-then-ty-eq2 : goal.returns-then-ty-eq2
unfolding list_ok_in
returns-then-ty-eq2 c = search (flags, ← c.counts_fit.ensures)

pub counts_fit-requires-then-ty-eq3 : goal.counts_fit-requires-then-ty-eq3
unfolding Counts
counts_fit-requires-then-ty-eq3 c = record { count_in_bounds = search rules; counts_of = rw c.if-ty-eq3.true c.requires.1 }

pub returns-then-ty-eq3 : goal.returns-then-ty-eq3
unfolding list_ok_in
returns-then-ty-eq3 c = search (flags, ← c.counts_fit-then-ty-eq3.ensures)

pub counts_fit-requires-then-ty-eq4 : goal.counts_fit-requires-then-ty-eq4
unfolding Counts
counts_fit-requires-then-ty-eq4 c = record { count_in_bounds = search rules; counts_of = rw c.if-ty-eq4.true c.requires.2 }

pub returns-then-ty-eq4 : goal.returns-then-ty-eq4
unfolding list_ok_in
returns-then-ty-eq4 c = search (flags, ← c.counts_fit-then-ty-eq4.ensures)

pub returns : goal.returns
unfolding list_ok_in
returns c = search (flags, ← c.all_fit.ensures)
