use mathlib.Core.Path.{sym, ◌∙◌}
use borrow.Author.Tests.{eq-eqb, ne_eqb}
use Rattle.column_sets.proofs.Numbers.{marked-none, mk_more, mk_found, mk_done}
use borrow.Author.Rules.{rules}
use Rattle.column_sets.proofs.marks.has_mark.Goals as goal

pub loop-i-init : goal.loop-i-init
loop-i-init c = (search rules, marked-none _ _)

pub returns-then-m-j : goal.returns-then-m-j
returns-then-m-j c =
    mk_found _ _ _ _ c.loop-i-test.true
    (eq-eqb _ _ (sym c.byte-m.ensures ∙ c.if-m-j.true))

pub loop-i-preserved : goal.loop-i-preserved
loop-i-preserved c = (
  search rules,
  mk_more _ _ _ c.loop-i.invariant.1
      (ne_eqb _ _ (λ e. c.if-m-j.false (c.byte-m.ensures ∙ e))),
)

pub returns : goal.returns
returns c = mk_done _ _ _ _ c.loop-i.invariant.0 c.loop-i-test.false c.loop-i.invariant.1
