use mathlib.Core.Path.{◌≡◌}
use Prim.Native.Nat.{ℕ, ◌≤◌}
use lib.ListN.{length}
use Rattle.column_constraints.specs.Abstraction.{excluded_by}
use mathlib.Core.List.{List}
use Rattle.column_constraints.specs.Abstraction.{kinds_in}
use Rattle.columns.proofs.comparisons.excluded_count.Given as goal

abbrev pub invariant-loop-i : goal.invariant-loop-i
invariant-loop-i l = (l.i ≤ l.n) × (l.m ≤ l.i) × ((vs : List ℕ) → l.m ≡ length (excluded_by (kinds_in l.told) vs l.marks l.i))
