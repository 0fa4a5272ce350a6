use Rattle.row_blocks.proofs.record.operator_record.Goals as goal

pub compare_record-requires : goal.compare_record-requires
compare_record-requires c =
    record { turn = c.requires.turn; in_bounds = c.requires.in_bounds; kind_value = c.requires.kind_value; code_bound = c.if-f-lt8.true }

pub connect_record-requires : goal.connect_record-requires
connect_record-requires c =
    record { turn = c.requires.turn; in_bounds = c.requires.in_bounds; kind_value = c.requires.kind_value; le_code = c.if-f-lt8.false }
