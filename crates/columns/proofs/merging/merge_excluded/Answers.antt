use Rattle.columns.proofs.merging.merge_excluded.Goals as goal

pub returns : goal.returns
returns c =
    record {
      result_after = (λ t e f. rw (
        c.add_excluded-d.ensures.result_after t e f,
        c.excluded_changes-changed.ensures t e f,
      ));
      fine = c.add_excluded-d.ensures.fine;
    }
