use mathlib.Core.Path.{◌≡◌}
use Prim.Native.Nat.{◌≤◌, ◌-◌}
use lib.ListN.{length}
use Rattle.column_constraints.specs.Abstraction.{Conjuncts, numbered, column_of, Fine}
use Rattle.column_constraints.specs.Steps.{step_marks}
use Rattle.column_constraints.specs.Abstraction.{kinds_in, values_in}
use Rattle.resolve_deferred.proofs.resolve.step_marks.Given as goal

abbrev pub invariant-loop-i : goal.invariant-loop-i
invariant-loop-i l = (l.i ≤ l.n) × (length l.own ≡ length l.initial.own) ×
    Fine (length l.initial.own) l.own l.c.len × ((t : Conjuncts) → t.kinds ≡ (kinds_in l.told) → t.values ≡ (values_in l.told) →
    column_of t (numbered l.own l.c) ≡ step_marks t l.marks l.i (column_of t (numbered l.initial.own l.initial.c)))
