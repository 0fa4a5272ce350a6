use mathlib.Core.Path.{refl, ◌∙◌, ap}
use Prim.Native.Nat.{◌-◌}
use native.Mathlib.Omega.{arith}
use Rattle.text_order.specs.Codes.{walk}
use Rattle.text_order.proofs.Words.{walk-stop, walk-on, walk-done}
use Rattle.text_order.proofs.number.first_rank.Goals as goal

pub loop-left-init : goal.loop-left-init
loop-left-init c = (c.requires.1, refl)

pub returns-then-depth_in-l : goal.returns-then-depth_in-l
returns-then-depth_in-l c =
    c.rank_in.ensures ∙ walk-stop _ _ _ _ c.loop-left-test.true (omega (arith, c.depth_in.ensures, c.if-depth_in-l.true))
    ∙ c.loop-left.invariant.1

pub loop-left-preserved : goal.loop-left-preserved
loop-left-preserved c = (
  omega (arith, c.link_in-s.ensures),
  ap (λ z. walk (c.loop-left._left - 1) c.args.codes.now z c.args.l) c.link_in-s.ensures ∙ walk-on _ _ _ _ c.loop-left-test.true (omega (
    arith,
    c.depth_in.ensures,
    c.if-depth_in-l.false,
  )) ∙ c.loop-left.invariant.1,
)

pub returns : goal.returns
returns c =
    c.rank_in-2.ensures ∙ walk-done _ _ _ _ (let h = c.loop-left-test.false in omega (arith, h)) ∙ c.loop-left.invariant.1
