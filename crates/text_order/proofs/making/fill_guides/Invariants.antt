use mathlib.Core.Path.{◌≡◌}
use Prim.Native.Nat.{◌≤◌}
use lib.ListN.{length}
use Rattle.text_order.proofs.making.fill_guides.Given as goal

abbrev pub invariant-loop-r : goal.invariant-loop-r
invariant-loop-r l =
    (l.r ≤ l.n) × (length l.guides ≡ length l.initial.guides) × (l.before ≤ 8192) × (length l.firsts ≡ 17)
