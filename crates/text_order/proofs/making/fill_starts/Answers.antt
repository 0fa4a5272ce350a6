use mathlib.Core.Path.{◌≡◌, refl}
use native.Mathlib.Omega.{arith}
use lib.ListN.{length-set}
use Rattle.text_order.proofs.Words.{starts_none, starts_more}
use borrow.Author.Rules.{rules}
use Rattle.text_order.proofs.making.fill_starts.Goals as goal

pub loop-s-init : goal.loop-s-init
loop-s-init c = (omega arith, refl, starts_none _ _)

pub loop-s-preserved : goal.loop-s-preserved
loop-s-preserved c = (
  search rules,
  simp length-set c.loop-s.invariant.1,
  starts_more _ _ _ _ (let e = c.loop-s.invariant.1 in omega (
    arith,
    e,
    c.loop-s-test.true,
    c.requires.1,
  )) c.full_at.ensures c.loop-s.invariant.2,
)

pub shape_of-values : goal.shape_of-values
shape_of-values c = c.loop-s.invariant.1

pub returns : goal.returns
returns c =
    let w : c.loop-s.s ≡ c.args.size = omega arith in
    rw w at c.loop-s.invariant.2
