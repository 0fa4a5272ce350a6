use Rattle.column_sets.proofs.Insertions.{all_none, all_more, all_fails, all_done}
use borrow.Author.Rules.{rules}
use Rattle.column_sets.proofs.marks.allows.Goals as goal

pub loop-i-init : goal.loop-i-init
loop-i-init c = (search rules, all_none _ _ _ _ _ _)

pub returns-then-is_barred_by : goal.returns-then-is_barred_by
returns-then-is_barred_by c =
    all_fails _ _ _ _ _ _ _ _ c.loop-i-test.true
    (rw (← c.byte-j.ensures, ← c.is_barred_by.ensures) c.if-is_barred_by.true)

pub loop-i-preserved : goal.loop-i-preserved
loop-i-preserved c = (
  search rules,
  all_more _ _ _ _ _ _ _ c.loop-i.invariant.1
      (rw (← c.byte-j.ensures, ← c.is_barred_by.ensures) c.if-is_barred_by.false),
)

pub returns : goal.returns
returns c = all_done _ _ _ _ _ _ _ _ c.loop-i.invariant.0 c.loop-i-test.false c.loop-i.invariant.1
