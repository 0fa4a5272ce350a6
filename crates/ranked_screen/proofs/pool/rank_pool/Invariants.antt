use mathlib.Core.Path.{◌≡◌}
use Prim.Native.Nat.{◌-◌, ◌≤◌}
use lib.ListN.{length}
use Rattle.ranked_screen.specs.Screen.{RankedPool}
use Rattle.ranked_screen.proofs.pool.rank_pool.Given as goal

-- `rank_pool` meets its contract. Assumes nothing.
abbrev pub invariant-loop-k : goal.invariant-loop-k
invariant-loop-k l =
    (l.k ≤ l.n) × (length l.pool ≡ length l.initial.pool) × RankedPool l.p l.ranks l.used l.k l.pool
