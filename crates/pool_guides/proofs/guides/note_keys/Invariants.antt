use Prim.Native.Nat.{ℕ, ◌≤◌, ◌<◌}
use mathlib.Core.Path.{◌≡◌}
use lib.ListN.{length, get_or}
use Rattle.pool_guides.proofs.guides.note_keys.Given as goal

abbrev pub invariant-loop-r : goal.invariant-loop-r
invariant-loop-r l =
    (l.r ≤ l.k) × (length l.order ≡ length l.initial.order) × ((q : ℕ) → q < 16386 → get_or l.order q 0 ≡ get_or l.initial.order q 0)
