use borrow.Author.Tests.{eq-eqb, ne_eqb}
use Rattle.column_sets.proofs.Lists.{kind-none, kind-more, kind-found, kind-done}
use borrow.Author.Rules.{rules}
use Rattle.column_sets.proofs.marks.has_kind.Goals as goal

pub loop-i-init : goal.loop-i-init
loop-i-init c = (search rules, kind-none _ _ _)

pub returns-then-kind_at-k : goal.returns-then-kind_at-k
returns-then-kind_at-k c =
    kind-found _ _ _ _ _ c.loop-i-test.true
    (rw (← c.byte-j.ensures, ← c.kind_at.ensures) (eq-eqb _ _ c.if-kind_at-k.true))

pub loop-i-preserved : goal.loop-i-preserved
loop-i-preserved c = (
  search rules,
  kind-more _ _ _ _ c.loop-i.invariant.1
      (rw (← c.byte-j.ensures, ← c.kind_at.ensures) (ne_eqb _ _ c.if-kind_at-k.false)),
)

pub returns : goal.returns
returns c = kind-done _ _ _ _ _ c.loop-i.invariant.0 c.loop-i-test.false c.loop-i.invariant.1
