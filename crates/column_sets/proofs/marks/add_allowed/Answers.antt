use mathlib.Core.Path.{◌∙◌}
use Rattle.constraints.specs.Column as q
use Rattle.column_constraints.specs.Abstraction.{column_of, numbered, values_of}
use Rattle.column_sets.proofs.Insertions.{live_add, dead-add}
use Rattle.column_sets.proofs.marks.add_allowed.Goals as goal

pub returns-then-c : goal.returns-then-c
returns-then-c c =
    record {
      result_after = (λ t k. dead-add (q.Allow (values_of t.starts t.counts t.pool c.args.j)) (column_of t (numbered
          c.args.marks.now c.args.c)) c.if-c.true);
      fine = c.requires.0;
    }

pub returns : goal.returns
returns c =
    record { result_after = (λ t k. c.insert_list.ensures.result_after t k ∙ live_add (q.Allow (values_of t.starts t.counts t.pool c.args.j)) (column_of t (numbered c.args.marks.now c.args.c)) c.if-c.false); fine = c.insert_list.ensures.fine }
