use mathlib.Core.Path.{◌≡◌}
use Prim.Native.Nat.{◌≤◌}
use lib.ListN.{length}
use Rattle.columns.proofs.index.gather.Given as goal

abbrev pub invariant-loop-j : goal.invariant-loop-j
invariant-loop-j l =
    (l.j ≤ 128) × (l.n ≤ length l.values) × (length l.values ≡ length l.initial.values) × (length l.seen ≡ length l.initial.seen)
