use mathlib.Core.Path.{◌∙◌, ap}
use mathlib.Core.List.{List}
use Prim.Native.Nat.{ℕ}
use lib.ListN.{get_or}
use Rattle.column_sets.proofs.Asked.{low-row}
use Rattle.columns.proofs.merging.merge_disallowed.Goals as goal

pub add_disallowed-e-requires : goal.add_disallowed-e-requires
add_disallowed-e-requires c = (c.requires.fine.0, c.requires.fine.1)

pub returns-then-m : goal.returns-then-m
returns-then-m c =
    record {
      result_after = (λ t e. rw (
        c.add_disallowed-e.ensures.result_after t e.2 (ap (λ (l : List ℕ). get_or l c.args.j 0) e.0 ∙ c.requires.fine.2),
        c.if-m.true,
      ));
      fine_2 = c.add_disallowed-e.ensures.fine;
    }

pub disallowed_changes-changed-requires : goal.disallowed_changes-changed-requires
disallowed_changes-changed-requires c =
    record { j_value = c.requires.fine.2; indexed = (c.requires.indexed.0, low-row _ _ _ c.requires.fine.0 c.requires.indexed.1) }

pub add_disallowed-d-requires : goal.add_disallowed-d-requires
add_disallowed-d-requires c = (c.requires.fine.0, c.requires.fine.1)

pub returns : goal.returns
returns c =
    record {
      result_after = (λ t e. rw (
        c.add_disallowed-d.ensures.result_after t e.2 (ap (λ (l : List ℕ). get_or l c.args.j 0) e.0 ∙ c.requires.fine.2),
        c.disallowed_changes-changed.ensures t e,
      ));
      fine_2 = c.add_disallowed-d.ensures.fine;
    }
