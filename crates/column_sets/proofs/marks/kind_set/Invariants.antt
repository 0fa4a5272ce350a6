use Prim.Native.Nat.{◌≤◌}
use Rattle.column_sets.specs.Index.{KindSet}
use Rattle.column_constraints.specs.Abstraction.{kinds_in}
use Rattle.column_sets.proofs.marks.kind_set.Given as goal

abbrev pub invariant-loop-i : goal.invariant-loop-i
invariant-loop-i l = (l.i ≤ l.n) × KindSet (kinds_in l.told) l.k l.marks l.i l.set
