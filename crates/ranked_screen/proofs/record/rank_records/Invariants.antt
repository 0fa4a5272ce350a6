use mathlib.Core.Path.{◌≡◌}
use Prim.Native.Nat.{◌-◌, ◌≤◌}
use lib.ListN.{length}
use Rattle.ranked_screen.specs.Screen.{RankedRecords}
use Rattle.ranked_screen.proofs.record.rank_records.Given as goal

-- `rank_records` meets its contract. Assumes nothing.
abbrev pub invariant-loop-i : goal.invariant-loop-i
invariant-loop-i l =
    (l.i ≤ l.used) × (length l.src ≡ length l.initial.src) × RankedRecords l.rs l.ranks l.words l.i l.src
