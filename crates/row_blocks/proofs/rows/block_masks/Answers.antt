use Rattle.std.proofs.Common.{arith, rules}
use lib.ListN.{get_or-replicate}
use Rattle.row_blocks.proofs.Working.{root-held}
use Rattle.row_blocks.proofs.rows.block_masks.Goals as goal

pub null_words-requires : goal.null_words-requires
null_words-requires c =
    let r = c.requires.ready in
    let w = r.narrow in
    record {
      rows_bound = r.few;
      columns_bound = r.narrow;
      columns_in_bounds = search rules;
      rows_in_bounds = r.within;
      nulls_len_bound = r.short;
      by_index = λ c h. get_or-replicate 64 c 0 0 (omega (
        arith,
        h,
        w,
      ));
    }

pub block_records-requires : goal.block_records-requires
block_records-requires c =
    record { ready = c.requires.ready; root_bound = c.requires.root_bound; closed = c.requires.closed; in_bounds = c.requires.in_bounds; in_bounds_2 = c.requires.in_bounds_2; in_bounds_3 = c.requires.in_bounds_3; in_bounds_4 = c.requires.in_bounds_4; ordered = c.requires.ordered; null_words = c.null_words.ensures; in_bounds_5 = search rules }

pub truth_input-requires : goal.truth_input-requires
truth_input-requires c =
    record {
      input = root-held _ _ _ _ _ _ _ _ c.requires.ready c.args.marks.now _ _ (omega (
        arith,
        c.requires.root_bound,
        c.requires.in_bounds_2,
        c.block_records.auto.truths,
      )) (omega (
        arith,
        c.requires.root_bound,
        c.requires.in_bounds_3,
        c.block_records.auto.unknowns,
      )) c.requires.root_value c.block_records.ensures;
      in_bounds = omega (
        arith,
        c.requires.in_bounds_4,
        c.block_records.auto.keys,
      );
    }
