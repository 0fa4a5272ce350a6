use Rattle.std.proofs.Common.{refl, arith, length-set, rules}
use Rattle.row_blocks.proofs.Telling.{marked-none, marked_more, marked-done}
use Rattle.row_blocks.proofs.lines.mark_row.Goals as goal

pub loop-c-init : goal.loop-c-init
loop-c-init c = (search rules, refl, marked-none _ _ _)

pub loop-c-preserved : goal.loop-c-preserved
loop-c-preserved c = (
  search rules,
  simp length-set c.loop-c.invariant.1,
  marked_more _ _ _ _ _ _ (omega (
    arith,
    c.loop-c.invariant.1,
    c.loop-c-test.true,
    c.requires.columns_in_bounds,
  )) c.loop-c.invariant.2 (rw (← c.null_marked.ensures) c.with_bit.ensures),
)

pub returns : goal.returns
returns c = marked-done _ _ _ _ _ _ (omega arith) c.loop-c.invariant.2
