use Rattle.columns.proofs.Mergings.{upper-moved}
use Rattle.columns.proofs.merging.merge_upper_at.Goals as goal

pub returns : goal.returns
returns c =
    record {
      result_value = (λ t a. rw (
        c.add_upper-d.ensures.column_value t a,
        c.is_change.ensures,
        c.add_upper-d.ensures.change_value t a,
        upper-moved,
      ));
      len_value = c.add_upper-d.ensures.len_value;
    }
