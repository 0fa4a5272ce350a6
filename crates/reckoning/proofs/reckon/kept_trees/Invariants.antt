use Rattle.read_operands.specs.Walk.{first_of}
use Rattle.checking.specs.Tree.{sum_at}
use lib.ListN.{get_or}
use Prim.Native.Nat.{◌≤◌, ◌*◌, ◌-◌}
use mathlib.Core.Path.{◌≡◌}
use Rattle.reckoning.proofs.reckon.kept_trees.Given as goal

abbrev pub invariant-loop-i : goal.invariant-loop-i
invariant-loop-i l =
    (l.i ≤ l.kept) × (l.sum ≤ 65536 * l.i) × (l.sum ≡ sum_at (λ n. get_or l.trees n 0) (first_of l.nodes l.i))
