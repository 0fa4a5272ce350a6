use Rattle.std.proofs.Common.{◌≡◌, ◌+◌, ◌*◌, length, min, arith}
use Rattle.chain_rows.proofs.Rows.{block-ready, classed_none, classed_more, classed_done}
use Rattle.chain_rows.proofs.judge.judge_blocks.Goals as goal

pub loop-block-init : goal.loop-block-init
loop-block-init c = classed_done _ _ _ _ _ _ _ 0 _ (omega arith) (classed_none _ _ _ _ _ _ _)

pub overflow_mul-base : goal.overflow_mul-base
overflow_mul-base c = let s = c.requires.evaluates.short in omega arith

pub block_masks-m-requires : goal.block_masks-m-requires
block_masks-m-requires c =
    record {
      ready = block-ready _ _ _ _ _ _ _ _ c.requires.evaluates (omega arith) c.at_most_64-rows.ensures;
      root_bound = c.requires.evaluates.small;
      root_value = c.requires.root_value;
      closed = c.requires.closed;
      in_bounds = c.requires.in_bounds;
      in_bounds_2 = omega arith;
      in_bounds_3 = omega arith;
      in_bounds_4 = omega arith;
      ordered = c.requires.ordered;
    }

pub loop-block-preserved : goal.loop-block-preserved
loop-block-preserved c =
    let e : 64 * c.loop-block.block + c.at_most_64-rows.result ≡ min (64 * (c.loop-block.block + 1)) (length c.args.nulls.now) = omega arith in
    let f : min (64 * c.loop-block.block) (length c.args.nulls.now) ≡ 64 * c.loop-block.block = omega arith in
    classed_done _ _ _ _ _ _ _ _ _ e (classed_more _ _ _ _ _ _ _ _ _ _ (c.write_classes.ensures.by_index _ c.block_masks-m.ensures)
    c.write_classes.ensures.by_index_2 (classed_done _ _ _ _ _ _ _ _ _ f c.loop-block.invariant))

pub returns : goal.returns
returns c = classed_done _ _ _ _ _ _ _ _ _ (omega arith) c.loop-block.invariant
