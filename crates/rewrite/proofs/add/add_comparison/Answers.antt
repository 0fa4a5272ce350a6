use Rattle.rewrite.proofs.Telling.{fine-same}
use Rattle.column_constraints.specs.Abstraction.{numbered, column_of}
use Prim.Native.Nat.{ℕ}
use Rattle.constraints.specs.Lined.{on_line, lined}
use Rattle.constraints.specs.Column as q
use mathlib.Core.Path.{◌∙◌, ap}
use Rattle.rewrite.proofs.add.add_comparison.Goals as goal

pub add_excluded-requires : goal.add_excluded-requires
add_excluded-requires c = let h = rw c.in-NotEq.is at c.requires.2 in (c.requires.0, c.requires.1, h.0.0)

pub returns-in-Eq : goal.returns-in-Eq
returns-in-Eq c =
    record {
      result_after = (λ t e f. rw c.in-Eq.is (c.add_equal.ensures.result_value t c.args.marks.now));
      fine = fine-same _ _ _ _
          c.add_equal.ensures.len_value c.requires.0;
    }

pub returns-in-NotEq : goal.returns-in-NotEq
returns-in-NotEq c =
    let h = rw c.in-NotEq.is at c.requires.2 in
    record { result_after = (λ t e f. rw c.in-NotEq.is (c.add_excluded.ensures.result_after t e f ∙ ap (λ (x : ℕ). q.add_excluded lined (on_line c.args.j x) (column_of t (numbered c.args.marks.now c.args.c))) h.0.1)); fine = c.add_excluded.ensures.fine }

pub returns-in-Lt : goal.returns-in-Lt
returns-in-Lt c =
    record {
      result_after = (λ t e f. rw c.in-Lt.is (c.with_upper.ensures.result_value t c.args.marks.now));
      fine = fine-same _ _ _ _
          c.with_upper.ensures.len_value c.requires.0;
    }

pub returns-in-LtEq : goal.returns-in-LtEq
returns-in-LtEq c =
    record {
      result_after = (λ t e f. rw c.in-LtEq.is (c.with_upper-in-LtEq.ensures.result_value t c.args.marks.now));
      fine = fine-same _ _ _ _
          c.with_upper-in-LtEq.ensures.len_value c.requires.0;
    }

pub returns-in-Gt : goal.returns-in-Gt
returns-in-Gt c =
    record {
      result_after = (λ t e f. rw c.in-Gt.is (c.with_lower.ensures.result_value t c.args.marks.now));
      fine = fine-same _ _ _ _
          c.with_lower.ensures.len_value c.requires.0;
    }

pub returns-in-GtEq : goal.returns-in-GtEq
returns-in-GtEq c =
    record {
      result_after = (λ t e f. rw c.in-GtEq.is (c.with_lower-in-GtEq.ensures.result_value t c.args.marks.now));
      fine = fine-same _ _ _ _
          c.with_lower-in-GtEq.ensures.len_value c.requires.0;
    }
