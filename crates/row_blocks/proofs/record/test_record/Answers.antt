use Rattle.row_blocks.proofs.Turns.{kept-tests}
use Rattle.row_blocks.proofs.record.test_record.Goals as goal

pub null_record-requires : goal.null_record-requires
null_record-requires c =
    record { turn = c.requires.turn; in_bounds = c.requires.in_bounds; lt_kind = c.requires.lt_kind; kind_bound = c.if-f-lt8.true }

pub member_record-requires : goal.member_record-requires
member_record-requires c =
    record { turn = c.requires.turn; in_bounds = c.requires.in_bounds; kind_value = kept-tests _ c.requires.turn.kept c.requires.lt_kind c.if-f-lt8.false c.if-f-eq8.false; ordered = c.requires.ordered }
