use mathlib.Core.Path.{◌≡◌}
use mathlib.Core.List.{◌∷◌}
use Prim.Native.Nat.{◌<◌}
use lib.ListN.{length}
use Rattle.merge.specs.Minterms.{pending}
use Rattle.read_operands.specs.Walk.{walked, stack_of, InputsBelow}
use Rattle.next_minterm.proofs.next_minterm.Given as goal

abbrev pub invariant-loop-x : goal.invariant-loop-x
invariant-loop-x l =
    (l.left < 128)
    × (length l.stack ≡ 128)
    × InputsBelow (walked l.rs) (l.top ∷ stack_of l.stack l.left)
    × (pending (walked l.rs) (l.top ∷ stack_of l.stack l.left) ≡ pending (walked l.rs) (stack_of l.initial.stack l.depth))

abbrev pub decreases-loop-x : goal.decreases-loop-x
decreases-loop-x l = l.top
