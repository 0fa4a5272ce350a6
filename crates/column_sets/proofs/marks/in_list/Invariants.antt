use mathlib.Core.Path.{◌≡◌}
use mathlib.Core.Bool.{false}
use Prim.Native.Nat.{ℕ, ◌≤◌}
use Rattle.constraints.specs.Payload.{payload}
use Rattle.truth.specs.Order.{is_equal}
use Rattle.constraints.specs.Scalars.{scalar_cmp}
use Rattle.truth.specs.FromBytes.{values_from}
use Rattle.column_constraints.specs.Steps.{any_of}
use Rattle.column_sets.proofs.marks.in_list.Given as goal

abbrev pub invariant-loop-i : goal.invariant-loop-i
invariant-loop-i l =
    (l.i ≤ l.fn.count) × (any_of (λ (w : ℕ). is_equal (scalar_cmp payload l.v.0 w)) (values_from l.pool l.fn.start l.i) ≡ false)
