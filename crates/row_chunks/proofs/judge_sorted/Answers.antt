use borrow.Author.Rules.{rules}
use Rattle.row_chunks.proofs.judge_sorted.Goals as goal
use Rattle.row_chunks.proofs.judge_sorted.Goals.{then-both, else-both}

pub judge_parts-requires : goal.judge_parts-requires
judge_parts-requires g c =
    record {
      in_bounds = c.requires.in_bounds;
      nulls_len_bound = c.requires.nulls_len_bound;
      values_len = c.requires.values_len;
      every_row = c.requires.every_row;
      root_value = c.requires.root_value;
      in_bounds_2 = (search rules, search rules, search rules);
      ordered = elim c.if-both.branch [ then-both w ↦ rw w.order-is w.order_both.ensures | else-both w ↦ rw w.order-is w.order_first.ensures ];
    }
