use mathlib.Core.Path.{◌≡◌}
use Prim.Native.Nat.{ℕ, ◌-◌, ◌<◌, ◌≤◌}
use lib.ListN.{length, get_or}
use Rattle.contradiction.proofs.labels.number_columns.Given as goal

abbrev pub invariant-loop-c : goal.invariant-loop-c
invariant-loop-c l =
    (l.c ≤ 64) × ((k : ℕ) → k < l.c → get_or l.labels k 0 ≡ k) × (length l.labels ≡ length l.initial.labels)
