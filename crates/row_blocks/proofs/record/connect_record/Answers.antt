use Rattle.std.proofs.Common.{arith, rules}
use Rattle.row_blocks.proofs.Turns.{binary-a, binary-b, connect_kind}
use Rattle.row_blocks.proofs.record.connect_record.Goals as goal

pub truth_input-s-requires : goal.truth_input-s-requires
truth_input-s-requires c =
    record { input = binary-a _ _ _ _ _ _ _ _ _ _ _ c.requires.turn c.requires.kind_value; in_bounds = omega (arith, c.requires.in_bounds) }

pub truth_input-t-requires : goal.truth_input-t-requires
truth_input-t-requires c =
    record { input = binary-b _ _ _ _ _ _ _ _ _ _ _ c.requires.turn c.requires.kind_value; in_bounds = search rules }

pub returns : goal.returns
returns c =
    connect_kind _ _ _ _ _ _ _ _ _ _ _ c.requires.turn c.requires.kind_value c.requires.le_code _ (c.connect_masks.ensures _ _ _ c.truth_input-s.ensures c.truth_input-t.ensures)
