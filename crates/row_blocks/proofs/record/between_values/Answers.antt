use Rattle.std.proofs.Common.{arith, rules}
use Rattle.masks.proofs.Comparing.{shown-kept}
use Rattle.row_blocks.proofs.Turns.{between-a, between-b, between-c, between-kind}
use Rattle.row_blocks.proofs.record.between_values.Goals as goal

pub operand-x-requires : goal.operand-x-requires
operand-x-requires c =
    record { input = between-a _ _ _ _ _ _ _ _ _ _ _ c.requires.turn c.requires.kind_value; at_in_bounds = omega (arith, c.requires.in_bounds) }

pub operand-low-requires : goal.operand-low-requires
operand-low-requires c =
    record { input = between-b _ _ _ _ _ _ _ _ _ _ _ c.requires.turn c.requires.kind_value; at_in_bounds = search rules }

pub operand-high-requires : goal.operand-high-requires
operand-high-requires c =
    record { input = between-c _ _ _ _ _ _ _ _ _ _ _ c.requires.turn c.requires.kind_value; at_in_bounds = search rules }

pub between_columns-requires : goal.between_columns-requires
between_columns-requires c =
    let k1 = c.operand-x.auto.keys in
    let k2 = c.operand-low.auto.keys in
    let k3 = c.operand-high.auto.keys in
    omega (arith, k1, k2, k3, c.requires.in_bounds)

pub returns : goal.returns
returns c =
    let k1 = c.operand-x.new.keys in
    let k2 = c.operand-low.new.keys in
    let k3 = c.operand-high.new.keys in
    let s1 = shown-kept _ k1 k2 0 64 _ _ (omega arith) c.operand-low.ensures.by_index c.operand-x.ensures.shown in
    let s2 = shown-kept _ k2 k3 0 128 _ _ (omega arith) c.operand-high.ensures.by_index s1 in
    let s3 = shown-kept _ k2 k3 64 128 _ _ (omega arith) c.operand-high.ensures.by_index c.operand-low.ensures.shown in
    between-kind _ _ _ _ _ _ _ _ _ _ _ c.requires.turn c.requires.kind_value _ (c.between_columns.ensures _ _ _ _ s2 s3
    c.operand-high.ensures.shown)
