use Rattle.std.proofs.Common.{rules}
use Rattle.chain_rows.proofs.Rows.{in_order}
use Rattle.chain_rows.proofs.judge.judge_ordered.Goals as goal

pub judge_blocks-requires : goal.judge_blocks-requires
judge_blocks-requires c =
    record {
      evaluates = c.requires.evaluates;
      root_value = c.requires.root_value;
      closed = c.requires.closed;
      in_bounds = c.requires.in_bounds;
      in_bounds_2 = search rules;
      in_bounds_3 = search rules;
      in_bounds_4 = search
          rules;
      nulls_in_bounds = c.requires.nulls_in_bounds;
      ordered = in_order _ _ c.make_order.ensures;
    }
