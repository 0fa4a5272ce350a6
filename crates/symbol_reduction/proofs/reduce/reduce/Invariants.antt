use Prim.Native.Nat.{◌-◌, ◌≤◌}
use mathlib.Core.Path.{◌≡◌}
use lib.ListN.{length}
use Rattle.symbol_reduction.specs.Reduction.{Reduced}
use Rattle.symbol_reduction.proofs.reduce.reduce.Given as goal

abbrev pub invariant-loop-i : goal.invariant-loop-i
invariant-loop-i l =
    (l.i ≤ l.used) × (length l.out ≡ length l.initial.out) × Reduced l.text l.table l.records l.pool l.row l.nulls l.used l.i l.out
