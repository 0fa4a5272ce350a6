use Prim.Native.Nat.{◌≤◌}
use mathlib.Core.Path.{◌≡◌}
use lib.ListN.{length}
use Rattle.symbol_reduction.specs.Reduction.{Copied}
use Rattle.symbol_reduction.proofs.reduce.copy_front.Given as goal

abbrev pub invariant-loop-i : goal.invariant-loop-i
invariant-loop-i l =
    (l.i ≤ l.fn.count) × (length l.out ≡ length l.initial.out) × Copied l.records l.out l.i
