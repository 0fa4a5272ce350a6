use Rattle.collect_constraints.proofs.Collecting.{required}
use Rattle.contradiction.proofs.told.tell_non_null.Goals as goal

pub returns : goal.returns
returns c =
    record {
      shows = (λ t marks T S. required t _ _ marks T _ _ _ _ S c.requires.0 c.slot-x.ensures c.load-c.ensures (λ m.
          c.require_nullability-r.ensures.result_value t m) c.require_nullability-r.ensures.len_value c.store.ensures.cells_after);
      cells_len_unchanged = c.store.ensures.cells_len_unchanged;
    }
