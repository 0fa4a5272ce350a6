use mathlib.Core.Path.{◌≡◌}
use Prim.Native.Nat.{ℕ, ◌≤◌, ◌<◌}
use lib.ListN.{length, get_or}
use Rattle.pool_guides.proofs.guides.plant_level.Given as goal

abbrev pub invariant-loop-p : goal.invariant-loop-p
invariant-loop-p l =
    (l.half < 8192) × (l.word < 16384) × (l.p ≤ l.size) × ((q : ℕ) → q < l.tree → get_or l.order q 0 ≡ get_or l.initial.order q 0) ×
    (length l.order ≡ length l.initial.order)
