use mathlib.Core.Path.{◌∙◌}
use Rattle.constraints.specs.Column as q
use Rattle.column_constraints.specs.Abstraction.{column_of, numbered, literal_at}
use Rattle.column_sets.proofs.Insertions.{live_add, dead-add}
use Rattle.column_constraints.specs.Abstraction.{values_in}
use Rattle.column_sets.proofs.marks.add_excluded.Goals as goal

pub returns-then-c : goal.returns-then-c
returns-then-c c =
    record { result_after = (λ t e f. dead-add (q.Exclude (literal_at (values_in c.args.told.now) c.args.j)) (column_of t (numbered c.args.marks.now c.args.c)) c.if-c.true); fine = c.requires.0 }

pub returns : goal.returns
returns c =
    record { result_after = (λ t e f. c.insert_excluded.ensures.result_after t e f ∙ live_add (q.Exclude (literal_at (values_in c.args.told.now) c.args.j)) (column_of t (numbered c.args.marks.now c.args.c)) c.if-c.false); fine = c.insert_excluded.ensures.fine }
