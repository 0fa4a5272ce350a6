use mathlib.Core.Path.{◌≡◌}
use Prim.Native.Nat.{◌≤◌}
use lib.ListN.{length}
use Rattle.columns.proofs.index.gather_list.Given as goal

abbrev pub invariant-loop-i : goal.invariant-loop-i
invariant-loop-i l =
    (l.i ≤ l.count) × (l.k ≤ length l.values) × (length l.values ≡ length l.initial.values) × (length l.seen ≡ length l.initial.seen)
