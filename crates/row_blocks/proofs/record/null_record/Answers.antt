use Rattle.std.proofs.Common.{arith}
use Rattle.row_blocks.proofs.Turns.{null_a, null_kind, not-null_kind}
use Rattle.row_blocks.proofs.record.null_record.Goals as goal

pub operand-requires : goal.operand-requires
operand-requires c =
    record {
      input = null_a _ _ _ _ _ _ _ _ _ _ _ c.requires.turn c.requires.lt_kind c.requires.kind_bound;
      at_in_bounds = omega (
        arith,
        c.requires.in_bounds,
      );
    }

pub returns-then-f-eq6 : goal.returns-then-f-eq6
returns-then-f-eq6 c =
    null_kind _ _ _ _ _ _ _ _ _ _ _ c.requires.turn c.if-f-eq6.true _ (c.null_word-m.ensures _ _ _ _ c.operand.ensures.shown)

pub returns : goal.returns
returns c =
    not-null_kind _ _ _ _ _ _ _ _ _ _ _ c.requires.turn c.requires.lt_kind c.requires.kind_bound c.if-f-eq6.false _
    (c.not_masks.ensures _ _ (c.null_word-m.ensures _ _ _ _ c.operand.ensures.shown))
