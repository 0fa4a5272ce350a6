use mathlib.Core.Path.{◌∙◌}
use lib.ListN.{get_or}
use Rattle.contradiction.proofs.Steps.{joined_at}
use Rattle.contradiction.proofs.labels.join_columns.Goals as goal

pub returns : goal.returns
returns c =
    record {
      by_index = (λ h k. c.rename_all.ensures.by_index h k ∙ joined_at c.args.labels.now c.args.a.0 c.args.b.0 _
          _ (get_or c.args.labels.now h 0) c.slot-x.ensures c.slot-y.ensures);
      labels_len_unchanged = c.rename_all.ensures.labels_len_unchanged;
    }
