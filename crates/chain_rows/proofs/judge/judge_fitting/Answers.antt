use Rattle.std.proofs.Common.{rules}
use Rattle.chain_rows.proofs.judge.judge_fitting.Goals as goal

pub judge_plain-requires : goal.judge_plain-requires
judge_plain-requires c =
    record { evaluates = c.requires.evaluates; root_value = c.mark_reached.ensures.root_after; closed = c.mark_reached.ensures.closed; in_bounds = search rules; nulls_in_bounds = c.requires.nulls_in_bounds; root_in_bounds = c.requires.root_in_bounds }

pub judge_ordered-requires : goal.judge_ordered-requires
judge_ordered-requires c =
    record { pool_len_bound = c.requires.pool_len_bound; evaluates = c.requires.evaluates; root_value = c.mark_reached.ensures.root_after; closed = c.mark_reached.ensures.closed; in_bounds = search rules; nulls_in_bounds = c.requires.nulls_in_bounds; root_in_bounds = c.requires.root_in_bounds }
