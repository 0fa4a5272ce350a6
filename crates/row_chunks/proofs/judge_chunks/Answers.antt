use borrow.Author.Rules.{rules}
use mathlib.Core.Path.{refl}
use mathlib.Core.Bool.{true≢false}
use Rattle.row_chunks.proofs.judge_chunks.Goals as goal

pub judge_sorted-requires : goal.judge_sorted-requires
judge_sorted-requires c =
    record {
      in_bounds = c.requires.in_bounds;
      nulls_len_bound = c.requires.nulls_len_bound;
      values_len = c.requires.values_len;
      every_row = c.requires.every_row;
      root_value = (
        c.mark_reached.ensures.root_after,
        c.mark_reached.ensures.closed,
        search rules,
      );
      one = λ e. absurd (true≢false e);
      two = λ _. (refl, c.second_pays.ensures c.if-second_pays.true);
    }

pub judge_asked-requires : goal.judge_asked-requires
judge_asked-requires c =
    record {
      in_bounds = c.requires.in_bounds;
      nulls_len_bound = c.requires.nulls_len_bound;
      values_len = c.requires.values_len;
      every_row = c.requires.every_row;
      root_value = (
        c.mark_reached.ensures.root_after,
        c.mark_reached.ensures.closed,
        search rules,
      );
    }
