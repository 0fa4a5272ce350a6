use Rattle.std.proofs.Common.{arith, rules}
use Rattle.masks.proofs.Comparing.{shown-kept}
use Rattle.row_blocks.proofs.Turns.{binary-a, binary-b, compare-kind}
use Rattle.row_blocks.proofs.record.compare_record.Goals as goal

pub operand-x-requires : goal.operand-x-requires
operand-x-requires c =
    record { input = binary-a _ _ _ _ _ _ _ _ _ _ _ c.requires.turn c.requires.kind_value; at_in_bounds = omega (arith, c.requires.in_bounds) }

pub operand-y-requires : goal.operand-y-requires
operand-y-requires c =
    record { input = binary-b _ _ _ _ _ _ _ _ _ _ _ c.requires.turn c.requires.kind_value; at_in_bounds = search rules }

pub returns : goal.returns
returns c =
    compare-kind _ _ _ _ _ _ _ _ _ _ _ c.requires.turn c.requires.kind_value c.requires.code_bound _ (c.compare_columns.ensures _ _ _ (shown-kept _ _ _ 0 64 _ _ (omega arith) c.operand-y.ensures.by_index c.operand-x.ensures.shown)
    c.operand-y.ensures.shown)
