use Rattle.std.proofs.Common.{arith}
use Rattle.row_blocks.proofs.Turns.{not_a, not-kind, kept_above}
use Rattle.row_blocks.proofs.record.record_masks.Goals as goal

pub truth_input-requires : goal.truth_input-requires
truth_input-requires c =
    record { input = not_a _ _ _ _ _ _ _ _ _ _ _ c.requires.turn c.if-f-eq5.true; in_bounds = omega (arith, c.requires.in_bounds) }

pub returns-then-f-eq5 : goal.returns-then-f-eq5
returns-then-f-eq5 c =
    not-kind _ _ _ _ _ _ _ _ _ _ _ c.requires.turn c.if-f-eq5.true _ (c.not_masks.ensures _ _ c.truth_input.ensures)

pub test_record-requires : goal.test_record-requires
test_record-requires c =
    record { turn = c.requires.turn; in_bounds = c.requires.in_bounds; lt_kind = kept_above _ c.requires.turn.kept c.if-f-eq4.false c.if-f-eq5.false; ordered = c.requires.ordered }
