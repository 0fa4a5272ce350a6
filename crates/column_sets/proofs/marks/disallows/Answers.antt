use Rattle.column_sets.proofs.Insertions.{any_none, any-more, any_found, any-done}
use borrow.Author.Rules.{rules}
use Rattle.column_sets.proofs.marks.disallows.Goals as goal

pub loop-i-init : goal.loop-i-init
loop-i-init c = (search rules, any_none _ _ _ _ _ _)

pub returns-then-is_disallowed_by : goal.returns-then-is_disallowed_by
returns-then-is_disallowed_by c =
    any_found _ _ _ _ _ _ _ _ c.loop-i-test.true
    (rw (← c.byte-j.ensures, ← c.is_disallowed_by.ensures) c.if-is_disallowed_by.true)

pub loop-i-preserved : goal.loop-i-preserved
loop-i-preserved c = (
  search rules,
  any-more _ _ _ _ _ _ _ c.loop-i.invariant.1
      (rw (← c.byte-j.ensures, ← c.is_disallowed_by.ensures) c.if-is_disallowed_by.false),
)

pub returns : goal.returns
returns c = any-done _ _ _ _ _ _ _ _ c.loop-i.invariant.0 c.loop-i-test.false c.loop-i.invariant.1
