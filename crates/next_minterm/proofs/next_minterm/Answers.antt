use mathlib.Core.Path.{sym, ◌∙◌, ap}
use Prim.Native.Nat.{◌<◌}
use native.Mathlib.Omega.{arith}
use lib.ListN.{length, length-set}
use Rattle.read_operands.specs.Walk.{walked, stack_of, sides_in}
use Rattle.read_operands.proofs.Walks.{left_below, turn_pending, turn_below, turn_one, top_pending, top_below}
use Rattle.next_minterm.proofs.Steps.{step-none, step-over}
use Rattle.next_minterm.proofs.next_minterm.Goals as goal

pub returns-then-depth-eq0 : goal.returns-then-depth-eq0
returns-then-depth-eq0 c = step-none (walked c.args.rs.now) c.args.stack.now c.args.depth c.if-depth-eq0.true

pub loop-x-init : goal.loop-x-init
loop-x-init c =
    let R = walked c.args.rs.now in
    let live : 0 < c.args.depth = omega arith in (
      omega (arith, c.requires.1),
      c.requires.2,
      top_below R c.args.stack.now c.args.depth live c.requires.0,
      top_pending R c.args.stack.now c.args.depth live,
    )

pub returns : goal.returns
returns c =
    let e = sym (ap sides_in c.in_default.is) ∙ c.sides_at.ensures in (
      sym c.loop-x.invariant.3 ∙ turn_one _ c.loop-x.top (stack_of c.loop-x.stack c.loop-x.left) c.loop-x.invariant.2 e,
      c.loop-x.invariant.2.1,
      omega (arith, c.loop-x.invariant.0),
    )

pub returns-then-left-ge127 : goal.returns-then-left-ge127
returns-then-left-ge127 c =
    let e = sym (ap sides_in c.in-Some.is) ∙ c.sides_at.ensures in
    step-over _ _ c.loop-x.top _ _ c.loop-x.stack c.loop-x.left c.loop-x.invariant.2 e c.if-left-ge127.true c.loop-x.invariant.3

pub loop-x-smaller : goal.loop-x-smaller
loop-x-smaller c =
    let e = sym (ap sides_in c.in-Some.is) ∙ c.sides_at.ensures in
    (left_below _ c.loop-x.top _ _ c.loop-x.stack c.loop-x.left c.loop-x.invariant.2 e).0

pub loop-x-preserved : goal.loop-x-preserved
loop-x-preserved c =
    let e = sym (ap sides_in c.in-Some.is) ∙ c.sides_at.ensures in
    let room : c.loop-x.left < length c.loop-x.stack = omega (arith, c.loop-x.invariant.0, c.loop-x.invariant.1) in (
      omega arith,
      length-set c.loop-x.stack c.loop-x.left _ ∙ c.loop-x.invariant.1,
      turn_below _ c.loop-x.top _ _ c.loop-x.stack c.loop-x.left c.loop-x.invariant.2 e room,
      turn_pending _ c.loop-x.top _ _ c.loop-x.stack c.loop-x.left c.loop-x.invariant.2 e room ∙ c.loop-x.invariant.3,
    )
