use mathlib.Core.Path.{◌≡◌}
use Prim.Native.Nat.{◌-◌, ◌≤◌}
use lib.ListN.{length}
use Rattle.ranked_chain.specs.RankedChain.{RankedLiterals}
use Rattle.ranked_chain.proofs.literals.rank_literals.Given as goal

abbrev pub invariant-loop-i : goal.invariant-loop-i
invariant-loop-i l =
    (l.i ≤ l.used) × (length l.out ≡ length l.initial.out) × RankedLiterals l.records l.ranks l.used l.i l.out
