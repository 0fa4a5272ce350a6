use mathlib.Core.Path.{◌∙◌}
use Rattle.collect_constraints.proofs.Collecting.{required}
use Rattle.column_table.proofs.Encoding.{columns-size}
use Rattle.collect_constraints.proofs.NullLines.{null_required}
use Rattle.collect_constraints.proofs.collect.require_non_null.Goals as goal

pub returns : goal.returns
returns c =
    record {
      shows = (λ t marks T S. required t _ _ marks T _ _ _ _ S c.requires.0 c.slot-x.ensures c.load-c.ensures
          (λ m. c.with_null_line-r.ensures.result_value t m ∙ c.require_nullability-d.ensures.result_value t m)
          (c.with_null_line-r.ensures.len_value ∙ c.require_nullability-d.ensures.len_value) c.store.ensures.cells_after);
      cells_len_unchanged = c.store.ensures.cells_len_unchanged;
      null_kept = null_required _ _ _ _ _ _ _ (columns-size _) c.requires.0 c.slot-x.ensures c.load-c.ensures
          (λ t m. c.with_null_line-r.ensures.result_value t m ∙ c.require_nullability-d.ensures.result_value t m) c.with_null_line-r.ensures.since_value
          c.store.ensures.cells_after;
    }
