use native.Mathlib.Omega.{arith}
use borrow.Author.Rules.{rules}
use Rattle.far_lists.proofs.far.equality_count.Goals as goal

pub bump-count-requires : goal.bump-count-requires
bump-count-requires c = omega (arith, c.loop-i.invariant.1, c.loop-i.invariant.0, c.requires.1)

pub loop-i-preserved : goal.loop-i-preserved
loop-i-preserved c = (search rules, omega (arith, c.bump-count.ensures.upper_bound, c.loop-i.invariant.1))

pub returns : goal.returns
returns c = omega (arith, c.loop-i.invariant.0, c.loop-i.invariant.1)
