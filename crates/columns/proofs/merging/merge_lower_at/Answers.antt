use Rattle.columns.proofs.Mergings.{lower-moved}
use Rattle.columns.proofs.merging.merge_lower_at.Goals as goal

pub returns : goal.returns
returns c =
    record {
      result_value = (λ t a. rw (
        c.add_lower-d.ensures.column_value t a,
        c.is_change.ensures,
        c.add_lower-d.ensures.change_value t a,
        lower-moved,
      ));
      len_value = c.add_lower-d.ensures.len_value;
    }
