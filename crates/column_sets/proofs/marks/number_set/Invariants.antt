use Prim.Native.Nat.{◌≤◌}
use Rattle.column_sets.specs.Index.{NumberSet}
use Rattle.column_sets.proofs.marks.number_set.Given as goal

abbrev pub invariant-loop-i : goal.invariant-loop-i
invariant-loop-i l = (l.i ≤ l.n) × NumberSet l.marks l.i l.set
