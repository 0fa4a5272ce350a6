use Rattle.std.proofs.Common.{length, arith, ◌≤◌, ◌<◌}
use Rattle.std.specs.Prelude.{Some}
use mathlib.Core.Path.{◌≡◌, ap, ◌∙◌, subst}
use borrow.Author.Tests.{not-false, not-true}
use mathlib.Core.Bool.{true, false}
use Rattle.merge.specs.Minterms.{minterms, pending}
use Rattle.read_operands.specs.Walk.{walked}
use Rattle.next_minterm.specs.Iter.{stack_in}
use Rattle.next_minterm.proofs.Steps.{new-walkable, begins, stop, Turned, turn}
use Rattle.minterm_iter.proofs.minterms.Goals as goal

pub loop-item-init : goal.loop-item-init
loop-item-init c =
    let e = rw (← c.into_iter-item-iterator.ensures.into_iter_gives) at c.new-item-items.ensures in
    let s = c.into_iter-item-iterator.result.stack in
    record {
      same = ap (λ r. r.now) e.0;
      walkable = new-walkable c.args.rs.now s c.args.root.0 (e.1, e.2) c.requires.below;
      turning = begins c.args.rs.now c.args.root.0 (stack_in s) c.args.nodes.now e.1;
    }

pub loop-item-preserved : goal.loop-item-preserved
loop-item-preserved c =
    let e = rw c.loop-item.invariant.same at c.next.ensures.steps in
    let h = rw c.in-Some.is at e.1 in
    let room : 128 ≤ length c.loop-item.nodes = omega (arith, c.requires.room, c.loop-item.auto.nodes) in
    let more : c.take-found.result.more ≡ true = not-false _ c.if-not-found.false in
    let f = subst (Turned (walked c.args.rs.now) (minterms (walked c.args.rs.now) c.args.root.0)
    (stack_in c.loop-item.item-iterator.stack) (stack_in c.next.new.self.stack) c.take-found.new.nodes c.take-found.result.len)
    more (turn (walked c.args.rs.now) (minterms (walked c.args.rs.now) c.args.root.0)
    (stack_in c.loop-item.item-iterator.stack) (stack_in c.next.new.self.stack) c.loop-item.nodes c.take-found.new.nodes
    c.loop-item.len c.take-found.result.len (Some c.in-Some.item) c.take-found.result.more room
    c.loop-item.invariant.turning h c.take-found.ensures) in
    record {
      same = ap (λ r. r.now) c.next.ensures.steps.0 ∙ c.loop-item.invariant.same;
      walkable = e.2;
      turning = f.0;
    }

pub loop-item-smaller : goal.loop-item-smaller
loop-item-smaller c =
    let e = rw c.loop-item.invariant.same at c.next.ensures.steps in
    let h = rw c.in-Some.is at e.1 in
    let room : 128 ≤ length c.loop-item.nodes = omega (arith, c.requires.room, c.loop-item.auto.nodes) in
    let more : c.take-found.result.more ≡ true = not-false _ c.if-not-found.false in
    let f = subst (Turned (walked c.args.rs.now) (minterms (walked c.args.rs.now) c.args.root.0)
    (stack_in c.loop-item.item-iterator.stack) (stack_in c.next.new.self.stack) c.take-found.new.nodes c.take-found.result.len)
    more (turn (walked c.args.rs.now) (minterms (walked c.args.rs.now) c.args.root.0)
    (stack_in c.loop-item.item-iterator.stack) (stack_in c.next.new.self.stack) c.loop-item.nodes c.take-found.new.nodes
    c.loop-item.len c.take-found.result.len (Some c.in-Some.item) c.take-found.result.more room
    c.loop-item.invariant.turning h c.take-found.ensures) in
    let g : length (pending (walked c.args.rs.now) (stack_in c.next.new.self.stack))
    < length (pending (walked c.args.rs.now) (stack_in c.loop-item.item-iterator.stack)) = omega (arith, f.1) in
    g

pub returns-then-not-found : goal.returns-then-not-found
returns-then-not-found c =
    let e = rw c.loop-item.invariant.same at c.next.ensures.steps in
    let h = rw c.in-Some.is at e.1 in
    let room : 128 ≤ length c.loop-item.nodes = omega (arith, c.requires.room, c.loop-item.auto.nodes) in
    let more : c.take-found.result.more ≡ false = not-true _ c.if-not-found.true in
    let f = subst (Turned (walked c.args.rs.now) (minterms (walked c.args.rs.now) c.args.root.0)
    (stack_in c.loop-item.item-iterator.stack) (stack_in c.next.new.self.stack) c.take-found.new.nodes c.take-found.result.len)
    more (turn (walked c.args.rs.now) (minterms (walked c.args.rs.now) c.args.root.0)
    (stack_in c.loop-item.item-iterator.stack) (stack_in c.next.new.self.stack) c.loop-item.nodes c.take-found.new.nodes
    c.loop-item.len c.take-found.result.len (Some c.in-Some.item) c.take-found.result.more room
    c.loop-item.invariant.turning h c.take-found.ensures) in
    record { counted = f.0.0; all = f.0.1 }

pub returns : goal.returns
returns c =
    let e = rw c.loop-item.invariant.same at c.next.ensures.steps in
    let p = rw c.in-None.is at e.1 in
    let f = stop (walked c.args.rs.now) (minterms (walked c.args.rs.now) c.args.root.0) (stack_in c.loop-item.item-iterator.stack)
    c.loop-item.nodes c.loop-item.len p.0 c.loop-item.invariant.turning (stack_in c.loop-item.item-iterator.stack) in
    record { counted = f.0; all = f.1 }
