use Rattle.column_sets.proofs.Numbers.{excl_none, ex-more, ex-found, ex-done}
use borrow.Author.Rules.{rules}
use Rattle.column_sets.proofs.marks.excludes.Goals as goal

pub loop-i-init : goal.loop-i-init
loop-i-init c = (search rules, excl_none _ _ _ _)

pub returns-then-is_excluded_by : goal.returns-then-is_excluded_by
returns-then-is_excluded_by c =
    ex-found _ _ _ _ _ _ c.loop-i-test.true
    (rw (← c.byte-j.ensures, ← c.is_excluded_by.ensures) c.if-is_excluded_by.true)

pub loop-i-preserved : goal.loop-i-preserved
loop-i-preserved c = (
  search rules,
  ex-more _ _ _ _ _ c.loop-i.invariant.1
      (rw (← c.byte-j.ensures, ← c.is_excluded_by.ensures) c.if-is_excluded_by.false),
)

pub returns : goal.returns
returns c = ex-done _ _ _ _ _ _ c.loop-i.invariant.0 c.loop-i-test.false c.loop-i.invariant.1
