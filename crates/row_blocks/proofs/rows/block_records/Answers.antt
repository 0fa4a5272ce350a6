use Rattle.std.proofs.Common.{arith}
use Rattle.row_blocks.proofs.Working.{worked_none, worked_skip, worked_more, worked_all, there, turn_of}
use Rattle.row_blocks.proofs.rows.block_records.Goals as goal
use Rattle.row_blocks.proofs.rows.block_records.Goals.{then-marks-n, else-marks-n}

pub loop-n-init : goal.loop-n-init
loop-n-init c = worked_none _ _ _ _ _ _ _ _ _ _

pub fields_in-f-requires : goal.fields_in-f-requires
fields_in-f-requires c = there _ _ _ _ _ _ _ _ c.requires.ready _ (omega arith)

pub turn_masks-m-requires : goal.turn_masks-m-requires
turn_masks-m-requires c =
    record {
      turn = turn_of _ _ _ _ _ _ _ _ c.requires.ready _ _ _ _ _ (omega arith) (omega arith) (omega arith)
          c.fields_in-f.ensures (rw (← c.is_kept.ensures) c.if-marks-n.true) c.requires.closed c.loop-n.invariant;
      in_bounds = omega arith;
      ordered = c.requires.ordered;
      null_words = c.requires.null_words;
      in_bounds_2 = c.requires.in_bounds_5;
    }

pub loop-n-preserved : goal.loop-n-preserved
loop-n-preserved c =
    elim c.if-marks-n.branch [
      | then-marks-n w ↦ rw (w.truths-is, w.unknowns-is) (worked_more _ _ _ _ _ _ _ _ _ _ _ _ (omega arith) (omega arith)
          w.turn_masks-m.ensures c.loop-n.invariant)
      | else-marks-n w ↦ rw (w.truths-is, w.unknowns-is) (worked_skip _ _ _ _ _ _ _ _ _ _ _ _ c.fields_in-f.ensures
          (rw (← c.is_kept.ensures) w.if-marks-n.false) c.loop-n.invariant)
    ]

pub returns : goal.returns
returns c = worked_all _ _ _ _ _ _ _ _ _ _ _ _ (omega arith) c.loop-n.invariant
