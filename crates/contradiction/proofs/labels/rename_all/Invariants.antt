use mathlib.Core.Path.{◌≡◌}
use Prim.Native.Nat.{ℕ, ◌-◌, ◌<◌, ◌≤◌}
use lib.ListN.{length, get_or}
use Rattle.contradiction.specs.Labels.{renamed}
use Rattle.contradiction.proofs.labels.rename_all.Given as goal

abbrev pub invariant-loop-c : goal.invariant-loop-c
invariant-loop-c l =
    (l.c ≤ 64) × ((k : ℕ) → k < l.c → get_or l.labels k 0 ≡ renamed l.from l.to (get_or l.initial.labels k 0)) × ((k : ℕ) → l.c ≤ k →
    get_or l.labels k 0 ≡ get_or l.initial.labels k 0) × (length l.labels ≡ length l.initial.labels)
