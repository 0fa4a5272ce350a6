use mathlib.Core.Path.{◌≡◌, sym, ◌∙◌, ap}
use mathlib.Core.Bool.{true, false}
use Prim.Native.Nat.{ℕ}
use native.Mathlib.Omega.{arith}
use Rattle.merge.specs.Collect.{is_in}
use Rattle.read_operands.specs.Walk.{first_of}
use Rattle.column_table.proofs.Resolving.{in_first}
use Rattle.write_places.proofs.Writing.{entered-none, entered-more}
use borrow.Author.Rules.{rules}
use Rattle.write_places.proofs.has_entered.Goals as goal

pub loop-i-init : goal.loop-i-init
loop-i-init c = (search rules, entered-none _ _)

pub returns-then-order-i : goal.returns-then-order-i
returns-then-order-i c =
    sym (ap (λ (x : ℕ). is_in x (first_of c.args.order.now c.args.n)) (sym c.if-order-i.true) ∙ in_first c.args.order.now c.loop-i.i c.args.n c.loop-i-test.true)

pub loop-i-preserved : goal.loop-i-preserved
loop-i-preserved c = (search rules, entered-more _ _ _ c.loop-i.invariant.1 c.if-order-i.false)

pub returns : goal.returns
returns c =
    let e : c.loop-i.i ≡ c.args.n = omega (arith, c.loop-i.invariant.0, c.loop-i-test.false) in
    sym (ap (λ (m : ℕ). is_in c.args.c (first_of c.args.order.now m)) (sym e) ∙ c.loop-i.invariant.1)
