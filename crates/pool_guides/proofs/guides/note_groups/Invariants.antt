use mathlib.Core.Path.{◌≡◌}
use Prim.Native.Nat.{ℕ, ◌≤◌, ◌<◌}
use lib.ListN.{get_or}
use Rattle.pool_guides.proofs.guides.note_groups.Given as goal

abbrev pub invariant-loop-turn : goal.invariant-loop-turn
invariant-loop-turn l =
    (l.p ≤ l._turn) × (l.g ≤ l._turn) × ((q : ℕ) → q < 16386 → get_or l.order q 0 ≡ get_or l.initial.order q 0)
