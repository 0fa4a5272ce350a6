use Rattle.records.specs.Bytes.{all, value_at}
use mathlib.Core.Bool.{true}
use mathlib.Core.Path.{◌≡◌}
use Prim.Native.Nat.{ℕ, ◌+◌, ◌-◌, ◌≤◌}
use Rattle.records.specs.Shape.{in_type_in}
use Rattle.record_check.proofs.fit.all_fit.Given as goal

abbrev pub invariant-loop-k : goal.invariant-loop-k
invariant-loop-k l = (l.k ≤ l.count) × (all (λ (j : ℕ). in_type_in l.text l.ty (value_at l.p (l.start + j))) l.k ≡ true)
