use mathlib.Core.Path.{◌≡◌}
use Prim.Native.Nat.{ℕ, ◌*◌, ◌≤◌}
use lib.ListN.{get_or}
use Rattle.rewrite.proofs.Telling.{Filled}
use Rattle.rewrite.proofs.literals.read_literals.Given as goal

abbrev pub invariant-loop-i : goal.invariant-loop-i
invariant-loop-i l =
    Filled l.rs l.nodes l.told l.i × ((m : ℕ) → 2 * l.n ≤ m → get_or l.told m 0 ≡ get_or l.initial.told m 0)
