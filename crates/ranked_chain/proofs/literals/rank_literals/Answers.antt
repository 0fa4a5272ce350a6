use mathlib.Core.Path.{◌≡◌, refl}
use native.Mathlib.Omega.{arith}
use Rattle.ranked_chain.proofs.RankedRecords.{literals-none, literals-more}
use borrow.Author.Rules.{rules}
use Rattle.ranked_chain.proofs.literals.rank_literals.Goals as goal

pub loop-i-init : goal.loop-i-init
loop-i-init c = (omega arith, refl, literals-none _ _ _ _ c.requires.copied)

pub rank_literal-requires : goal.rank_literal-requires
rank_literal-requires c =
    (omega (arith, c.loop-i-test.true, c.requires.used_bound.0), omega (arith, c.loop-i.invariant.1, c.loop-i-test.true, c.requires.used_bound.2))

pub loop-i-preserved : goal.loop-i-preserved
loop-i-preserved c = (
  omega (arith, c.loop-i-test.true),
  search rules,
  literals-more _ _ _ _ _ _ _ (omega (
    arith,
    c.loop-i.invariant.1,
    c.loop-i-test.true,
    c.requires.used_bound.2,
  )) (omega (arith, c.type_inv.ranks c.loop-i.i)) refl c.rank_literal.ensures c.loop-i.invariant.2,
)

pub returns : goal.returns
returns c =
    let w : c.loop-i.i ≡ c.args.used = omega (arith, c.loop-i.invariant.0, c.loop-i-test.false) in
    rw w at c.loop-i.invariant.2
