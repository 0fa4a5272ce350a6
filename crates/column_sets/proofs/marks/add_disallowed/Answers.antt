use mathlib.Core.Path.{sym, ◌∙◌, ap}
use mathlib.Core.List.{List}
use Prim.Native.Nat.{ℕ}
use lib.ListN.{get_or}
use Rattle.constraints.specs.Column as q
use Rattle.column_constraints.specs.Abstraction.{column_of, numbered, values_of}
use Rattle.column_sets.proofs.Insertions.{dead-add, strict-add}
use Rattle.column_sets.proofs.marks.add_disallowed.Goals as goal

pub returns-then-c : goal.returns-then-c
returns-then-c c =
    record {
      result_after = (λ t f k. dead-add (q.Disallow c.args.strict (values_of t.starts t.counts t.pool c.args.j))
          (column_of t (numbered c.args.marks.now c.args.c)) c.if-c.true);
      fine = c.requires.0;
    }

pub returns : goal.returns
returns c =
    record {
      result_after = (λ t f k. strict-add t (numbered c.args.marks.now c.args.c) (numbered _ c.insert_list-d.result)
          c.args.j c.args.strict c.count_at.result (c.insert_list-d.ensures.result_after_2 t k) c.if-c.false (c.count_at.ensures ∙ sym (ap (λ (l : List ℕ). get_or l c.args.j 0) f)));
      fine = c.insert_list-d.ensures.fine;
    }
