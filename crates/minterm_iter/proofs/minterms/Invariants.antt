-- Between the turns: the iterator walks the lent records, and those found and those to come are the root's.
use Rattle.std.proofs.Common.{◌≡◌, length}
use Rattle.merge.specs.Minterms.{minterms, pending}
use Rattle.read_operands.specs.Walk.{walked}
use Rattle.next_minterm.specs.Iter.{stack_in, Walkable}
use mathlib.Core.Bool.{true}
use Rattle.next_minterm.proofs.Steps.{Turning}
use Rattle.minterm_iter.proofs.minterms.Given as goal

abbrev pub invariant-loop-item : goal.invariant-loop-item
invariant-loop-item l = record {
  same : l.item-iterator.records.now ≡ l.rs;
  walkable : Walkable l.rs l.item-iterator.stack;
  turning : Turning (walked l.rs) (minterms (walked l.rs) l.fn.root.0) (stack_in l.item-iterator.stack) l.nodes l.len true;
}

abbrev pub decreases-loop-item : goal.decreases-loop-item
decreases-loop-item l = length (pending (walked l.rs) (stack_in l.item-iterator.stack))
