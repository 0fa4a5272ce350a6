use mathlib.Core.Path.{◌≡◌}
use Prim.Native.Nat.{◌≤◌}
use lib.ListN.{length}
use Rattle.text_order.specs.Starts.{Starts}
use Rattle.text_order.proofs.making.fill_starts.Given as goal

abbrev pub invariant-loop-s : goal.invariant-loop-s
invariant-loop-s l =
    (l.s ≤ l.size) × (length l.values ≡ length l.initial.values) × Starts l.size l.s l.values
