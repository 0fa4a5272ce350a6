use mathlib.Core.Path.{◌≡◌}
use mathlib.Core.Option.{none}
use Prim.Native.Nat.{◌≤◌}
use Rattle.column_constraints.specs.Abstraction.{allowed_by}
use Rattle.column_constraints.specs.Abstraction.{kinds_in, starts_in, counts_in}
use Rattle.column_changes.proofs.changes.any_allowed.Given as goal

abbrev pub invariant-loop-i : goal.invariant-loop-i
invariant-loop-i l = (l.i ≤ l.n) × (allowed_by (kinds_in l.told) (starts_in l.told) (counts_in l.told) l.pool l.marks l.i ≡ none)
