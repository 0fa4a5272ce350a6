use mathlib.Core.Path.{sym, ◌∙◌}
use Rattle.truth.specs.FromBytes.{values_from}
use Rattle.column_sets.proofs.Lists.{an_none, an_more, an_found, an_done, given-any}
use borrow.Author.Rules.{rules}
use Rattle.column_sets.proofs.marks.in_list.Goals as goal

pub loop-i-init : goal.loop-i-init
loop-i-init c = (search rules, an_none _ _ _)

pub returns-then-same : goal.returns-then-same
returns-then-same c =
    an_found _ _ _ _ _ c.loop-i-test.true
    (rw (← c.value_at.ensures, ← c.same.ensures) c.if-same.true) ∙
    sym (given-any c.args.v.0 (values_from c.args.pool.now c.args.start c.args.count))

pub loop-i-preserved : goal.loop-i-preserved
loop-i-preserved c = (
  search rules,
  an_more _ _ _ _ c.loop-i.invariant.1
      (rw (← c.value_at.ensures, ← c.same.ensures) c.if-same.false),
)

pub returns : goal.returns
returns c =
    an_done _ _ _ _ _ c.loop-i.invariant.0 c.loop-i-test.false c.loop-i.invariant.1 ∙
    sym (given-any c.args.v.0 (values_from c.args.pool.now c.args.start c.args.count))
