use mathlib.Core.Path.{◌≡◌}
use Prim.Native.Nat.{◌-◌, ◌≤◌}
use lib.ListN.{length}
use Rattle.ranked_chain.specs.RankedChain.{RaisedLists}
use Rattle.ranked_chain.proofs.lists.raise_lists.Given as goal

abbrev pub invariant-loop-i : goal.invariant-loop-i
invariant-loop-i l =
    (l.i ≤ l.used) × (length l.out ≡ length l.initial.out) × RaisedLists l.words l.i l.initial.out l.out
