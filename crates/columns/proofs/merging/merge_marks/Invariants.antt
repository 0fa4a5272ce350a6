use mathlib.Core.Path.{◌≡◌}
use lib.ListN.{length}
use Rattle.column_constraints.specs.Abstraction.{conjuncts, Fine}
use Rattle.column_constraints.specs.Steps.{merging_of, take_marks}
use Rattle.columns.proofs.merging.merge_marks.Given as goal

abbrev pub invariant-loop-i : goal.invariant-loop-i
invariant-loop-i l =
    Fine (length l.initial.own) l.own l.m.column.len × (merging_of (conjuncts l.told l.pool) l.own l.m ≡ take_marks (conjuncts l.told l.pool) l.marks l.i (merging_of (conjuncts l.told l.pool) l.initial.own l.initial.m))
