use Rattle.record_check.proofs.Filling.{Filled}
use Rattle.record_check.specs.Outside.{outside}
use lib.ListN.{length}
use mathlib.Core.Path.{◌≡◌}
use Prim.Native.Nat.{◌-◌, ◌≤◌}
use Rattle.record_check.proofs.outside.fill_outside.Given as goal

abbrev pub invariant-loop-k : goal.invariant-loop-k
invariant-loop-k l =
    (l.k ≤ l.n) × (length l.counts ≡ length l.initial.counts) × (l.d ≡ outside l.text l.p l.ty l.k) × (l.d ≤ l.k) × Filled (outside l.text l.p l.ty) l.counts l.k
