use Rattle.std.proofs.Common.{refl}
use Rattle.row_blocks.proofs.Worths.{record_there}
use Rattle.row_blocks.proofs.rows.turn_masks.Goals as goal

pub is_line-requires : goal.is_line-requires
is_line-requires c = record_there _ _ _ _ _ _ _ c.args.n _ c.requires.turn.ready refl

pub line_masks-requires : goal.line_masks-requires
line_masks-requires c =
    record { turn = c.requires.turn; null_words = c.requires.null_words; in_bounds = c.requires.in_bounds_2; line = c.is_line.ensures c.if-is_line.true }
