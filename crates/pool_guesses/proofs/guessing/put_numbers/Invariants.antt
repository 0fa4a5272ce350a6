use Prim.Native.Nat.{ℕ, ◌-◌, ◌≤◌, ◌<◌}
use mathlib.Core.Path.{◌≡◌}
use lib.ListN.{length, get_or}
use Rattle.pool_guesses.proofs.guessing.put_numbers.Given as goal

abbrev pub invariant-loop-i : goal.invariant-loop-i
invariant-loop-i l =
    (l.i ≤ 17) × (length l.keys ≡ length l.initial.keys) × ((j : ℕ) → j < l.at → get_or l.keys j 0 ≡ get_or l.initial.keys j 0)
