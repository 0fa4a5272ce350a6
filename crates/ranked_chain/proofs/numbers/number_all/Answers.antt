use mathlib.Core.Path.{◌≡◌, refl}
use native.Mathlib.Omega.{arith}
use lib.ListN.{length-set}
use Rattle.ranked_chain.proofs.Ranking.{numbered-none, numbered_more}
use borrow.Author.Rules.{rules}
use Rattle.ranked_chain.proofs.numbers.number_all.Goals as goal

pub loop-i-init : goal.loop-i-init
loop-i-init c = (omega arith, refl, numbered-none _ _ _)

pub loop-i-preserved : goal.loop-i-preserved
loop-i-preserved c = (
  search rules,
  simp length-set c.loop-i.invariant.1,
  numbered_more _ _ _ _ _ (let e = c.loop-i.invariant.1 in omega (
    arith,
    e,
    c.loop-i-test.true,
    c.requires.2,
  )) c.number.ensures c.loop-i.invariant.2,
)

pub shape_of-numbers : goal.shape_of-numbers
shape_of-numbers c = c.loop-i.invariant.1

pub returns : goal.returns
returns c =
    let w : c.loop-i.i ≡ c.args.n = omega arith in
    rw w at c.loop-i.invariant.2
