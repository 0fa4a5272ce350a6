use mathlib.Core.Path.{◌≡◌}
use Prim.Native.Nat.{◌-◌, ◌≤◌}
use Rattle.constraints.specs.Lined.{lined}
use Rattle.column_constraints.specs.Abstraction.{Conjuncts}
use Rattle.merge.specs.Emit.{comparisons}
use Rattle.read_operands.specs.Walk.{first_of}
use Rattle.column_table.specs.Words.{columns_of}
use Rattle.column_table.specs.State.{shown, Written}
use Rattle.column_constraints.specs.Abstraction.{kinds_in, values_in}
use Rattle.resolve_columns.proofs.conclude.write_comparisons.Given as goal

abbrev pub invariant-loop-w : goal.invariant-loop-w
invariant-loop-w l =
    (l.w ≤ l.columns) × ((s : Conjuncts) → s.kinds ≡ (kinds_in l.told) → s.values ≡ (values_in l.told) → Written l.t l.used l.initial.rs (comparisons
    lined (first_of l.order l.w) (shown s (columns_of l.cells) l.marks)) l.u l.rs)
