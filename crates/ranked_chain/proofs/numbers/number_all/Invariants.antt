use mathlib.Core.Path.{◌≡◌}
use Prim.Native.Nat.{◌-◌, ◌≤◌}
use lib.ListN.{length}
use Rattle.ranked_chain.specs.RankedChain.{Numbered}
use Rattle.ranked_chain.proofs.numbers.number_all.Given as goal

abbrev pub invariant-loop-i : goal.invariant-loop-i
invariant-loop-i l =
    (l.i ≤ l.n) × (length l.numbers ≡ length l.initial.numbers) × Numbered l.codes l.values l.i l.numbers
