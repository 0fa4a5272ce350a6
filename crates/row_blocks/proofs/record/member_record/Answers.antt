use Rattle.std.proofs.Common.{refl, arith, rules}
use Rattle.row_blocks.proofs.Turns.{in_a, list-there, list-within, member-kind}
use Rattle.row_blocks.proofs.Worths.{record_there}
use Rattle.row_blocks.proofs.record.member_record.Goals as goal

pub fields_in-list-requires : goal.fields_in-list-requires
fields_in-list-requires c = list-there _ _ _ _ _ _ _ _ _ _ _ c.requires.turn c.requires.kind_value

pub operand-x-requires : goal.operand-x-requires
operand-x-requires c =
    record { input = in_a _ _ _ _ _ _ _ _ _ _ _ c.requires.turn c.requires.kind_value; at_in_bounds = omega (arith, c.requires.in_bounds) }

pub fields_in-requires : goal.fields_in-requires
fields_in-requires c =
    record_there _ _ _ _ _ _ _ _ _ (in_a _ _ _ _ _ _ _ _ _ _ _ c.requires.turn c.requires.kind_value).ready refl

pub member_masks-requires : goal.member_masks-requires
member_masks-requires c =
    record { ordered = c.requires.ordered; b_in_bounds = list-within _ _ _ _ _ _ _ _ _ _ _ c.requires.turn c.requires.kind_value _ c.fields_in-list.ensures; in_bounds = search rules; le_hints = c.hints_at-hints.ensures.0; hints_bound = c.hints_at-hints.ensures.1 }

pub returns : goal.returns
returns c =
    member-kind _ _ _ _ _ _ _ _ _ _ _ c.requires.turn c.requires.kind_value _ c.fields_in-list.ensures _ (c.member_masks.ensures _ _ c.operand-x.ensures.shown)
