use borrow.Author.Rules.{rules}
use mathlib.Core.Path.{sym}
use Prim.Native.Nat.{◌*◌}
use native.Mathlib.Omega.{arith}
use lib.ListN.{length}
use lib.Seq.{length-take-le}
use Rattle.ranked_chain.proofs.Chunked.{part_evaluates, chunk_classes}
use Rattle.row_chunks.proofs.judge_chunk.Goals as goal

pub slice_bounds-judge_blocks-end-2 : goal.slice_bounds-judge_blocks-end-2
slice_bounds-judge_blocks-end-2 c =
    sym (length-take-le (8 * length c.args.table.now * c.args.count) c.block_ranks.new.block (omega (arith, c.block_ranks.auto.block, c.requires.count_in_bounds_2)))

pub judge_blocks-requires : goal.judge_blocks-requires
judge_blocks-requires c =
    record { evaluates = part_evaluates _ _ _ _ _ _ _ _ c.requires.in_bounds.1 c.requires.count_in_bounds.1 c.requires.count_in_bounds.0 (search rules) c.requires.every_row; root_value = c.requires.root_value.0; closed = c.requires.root_value.1; in_bounds = c.requires.root_value.2; in_bounds_2 = c.requires.in_bounds_2.0; in_bounds_3 = c.requires.in_bounds_2.1; in_bounds_4 = c.requires.in_bounds_2.2; nulls_in_bounds = omega arith; ordered = c.requires.ordered }

pub returns : goal.returns
returns c =
    λ f h s. chunk_classes _ _ _ _ _ _ _ _ _ c.block_ranks.new.block c.args.classes.now
    c.judge_blocks.new.classes c.requires.count_in_bounds.0 c.requires.count_in_bounds.2 (omega
    (arith, c.block_ranks.auto.block, c.requires.count_in_bounds_2)) c.judge_blocks.auto.classes c.block_ranks.ensures c.judge_blocks.ensures f h s
