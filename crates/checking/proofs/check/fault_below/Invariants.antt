use Prim.Native.Nat.{ℕ, ◌≤◌}
use lib.ListN.{length}
use mathlib.Core.Path.{◌≡◌}
use Rattle.checking.specs.Tree.{Counted}
use Rattle.record_check.specs.Step.{Entered}
use Rattle.checking.specs.Check.{record_fault_in}
use Rattle.records.specs.Record.{node}
use Rattle.records.specs.Bytes.{first}
use Rattle.checking.proofs.check.fault_below.Given as goal

abbrev pub invariant-loop-i : goal.invariant-loop-i
invariant-loop-i l =
    (l.i ≤ l.used) × (length l.types ≡ length l.initial.types) × (length l.trees ≡ length l.initial.trees) × Entered l.t l.rs l.types l.i ×
    Counted l.rs l.trees l.i × (first (λ (j : ℕ). record_fault_in l.text l.t l.rs l.p (node j)) l.i ≡ 0)
