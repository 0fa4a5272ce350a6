use mathlib.Core.Path.{◌≡◌}
use Prim.Native.Nat.{ℕ, ◌<◌}
use lib.ListN.{get_or}
use Rattle.pool_guides.proofs.guides.plant_tree.Given as goal

abbrev pub invariant-loop-level : goal.invariant-loop-level
invariant-loop-level l = (q : ℕ) → q < l.tree → get_or l.order q 0 ≡ get_or l.initial.order q 0
