use mathlib.Core.Path.{◌∙◌, ap}
use mathlib.Core.List.{List}
use Prim.Native.Nat.{ℕ}
use lib.ListN.{get_or}
use Rattle.column_sets.proofs.Asked.{low-row}
use Rattle.columns.proofs.merging.merge_allowed.Goals as goal

pub add_allowed-e-requires : goal.add_allowed-e-requires
add_allowed-e-requires c = (c.requires.fine.0, c.requires.fine.1)

pub returns-then-m : goal.returns-then-m
returns-then-m c =
    record {
      result_after = (λ t e. rw (
        c.add_allowed-e.ensures.result_after t (ap (λ (l : List ℕ). get_or l c.args.j 0) e.0 ∙ c.requires.fine.2),
        c.if-m.true,
      ));
      fine_2 = c.add_allowed-e.ensures.fine;
    }

pub allowed_changes-changed-requires : goal.allowed_changes-changed-requires
allowed_changes-changed-requires c =
    record { j_value = c.requires.fine.2; indexed = (c.requires.indexed.0, low-row _ _ _ c.requires.fine.0 c.requires.indexed.1) }

pub add_allowed-d-requires : goal.add_allowed-d-requires
add_allowed-d-requires c = (c.requires.fine.0, c.requires.fine.1)

pub returns : goal.returns
returns c =
    record {
      result_after = (λ t e. rw (
        c.add_allowed-d.ensures.result_after t (ap (λ (l : List ℕ). get_or l c.args.j 0) e.0 ∙ c.requires.fine.2),
        c.allowed_changes-changed.ensures t e,
      ));
      fine_2 = c.add_allowed-d.ensures.fine;
    }
