use mathlib.Core.Path.{◌≡◌, refl, ◌∙◌}
use native.Mathlib.Omega.{arith}
use lib.ListN.{length}
use Rattle.ranked_chain.proofs.Chunked.{classes_none, chunk_room}
use borrow.Author.Rules.{rules}
use Rattle.row_chunks.proofs.judge_parts.Goals as goal

pub chunk_rows-most-requires : goal.chunk_rows-most-requires
chunk_rows-most-requires c = c.requires.in_bounds.1

pub loop-base-init : goal.loop-base-init
loop-base-init c = (omega arith, refl, search rules, (λ f h. classes_none f _), refl, refl, refl)

pub slice_bounds-judge_chunk-end : goal.slice_bounds-judge_chunk-end
slice_bounds-judge_chunk-end c = search (rules, c.loop-base.invariant.2)

pub judge_chunk-requires : goal.judge_chunk-requires
judge_chunk-requires c =
    let n = c.at_most-count.ensures.upper_bound in
    record {
      in_bounds = c.requires.in_bounds;
      count_in_bounds = (
        omega (arith, n, c.loop-base-test.true),
        c.requires.nulls_len_bound.0,
        omega (
          arith,
          c.loop-base.invariant.1,
          c.requires.nulls_len_bound.1,
        ),
      );
      values_len = c.requires.values_len;
      count_in_bounds_2 = chunk_room _ _ _ _ n.1 c.chunk_rows-most.ensures.2 (omega (
        arith,
        c.loop-base.invariant.2,
      ));
      every_row = c.requires.every_row;
      root_value = c.requires.root_value;
      in_bounds_2 = (
        omega (
          arith,
          c.loop-base.invariant.4,
          c.requires.in_bounds_2.0,
        ),
        omega (arith, c.loop-base.invariant.5, c.requires.in_bounds_2.1),
        omega (
          arith,
          c.loop-base.invariant.6,
          c.requires.in_bounds_2.2,
        ),
      );
      ordered = c.requires.ordered;
    }

pub overflow_add-base : goal.overflow_add-base
overflow_add-base c =
    omega (arith, c.at_most-count.ensures.upper_bound, c.loop-base-test.true, c.requires.nulls_len_bound.0)

pub loop-base-smaller : goal.loop-base-smaller
loop-base-smaller c =
    let p = c.at_most-count.ensures.result_nonzero (omega (arith, c.loop-base-test.true)) c.chunk_rows-most.ensures.0 in
    omega (arith, c.at_most-count.ensures.upper_bound, c.loop-base-test.true, p)

pub loop-base-preserved : goal.loop-base-preserved
loop-base-preserved c =
    let n = c.at_most-count.ensures.upper_bound in (
      omega (arith, n, c.loop-base-test.true),
      c.judge_chunk.auto.classes ∙ c.loop-base.invariant.1,
      c.judge_chunk.auto.block ∙ c.loop-base.invariant.2,
      (λ f h. c.judge_chunk.ensures f h (c.loop-base.invariant.3 f h)),
      c.judge_chunk.auto.truths ∙ c.loop-base.invariant.4,
      c.judge_chunk.auto.unknowns ∙ c.loop-base.invariant.5,
      c.judge_chunk.auto.keys ∙ c.loop-base.invariant.6,
    )

pub shape_of-truths : goal.shape_of-truths
shape_of-truths c = c.loop-base.invariant.4

pub shape_of-unknowns : goal.shape_of-unknowns
shape_of-unknowns c = c.loop-base.invariant.5

pub shape_of-keys : goal.shape_of-keys
shape_of-keys c = c.loop-base.invariant.6

pub shape_of-classes : goal.shape_of-classes
shape_of-classes c = c.loop-base.invariant.1

pub returns : goal.returns
returns c =
    λ f h. let w : c.loop-base.base ≡ length c.args.nulls.now = omega (arith, c.loop-base.invariant.0, c.loop-base-test.false) in rw w at (c.loop-base.invariant.3 f h)
