use Rattle.reckoning.proofs.Reckoning.{sum_none, sum_more}
use lib.ListN.{get_or}
use native.Mathlib.Omega.{arith}
use borrow.Author.Rules.{rules}
use mathlib.Core.Path.{◌≡◌}
use Rattle.reckoning.proofs.reckon.kept_trees.Goals as goal

pub loop-i-init : goal.loop-i-init
loop-i-init c = (search rules, search rules, sum_none _ _)

pub overflow_add-sum : goal.overflow_add-sum
overflow_add-sum c =
    omega (
      arith,
      c.tree_at-sum.ensures.upper_bound,
      c.loop-i.invariant.0,
      c.loop-i.invariant.1,
      c.requires.1,
    )

pub loop-i-preserved : goal.loop-i-preserved
loop-i-preserved c = (
  search rules,
  omega (arith, c.tree_at-sum.ensures.upper_bound, c.loop-i.invariant.1),
  sum_more (λ n. get_or c.args.trees.now n 0) _ _ _ _
      c.loop-i.invariant.2 c.tree_at-sum.ensures.value,
)

pub returns : goal.returns
returns c =
    let e : c.loop-i.i ≡ c.args.kept = omega arith in
    record { value = rw e at c.loop-i.invariant.2; upper_bound = rw e at c.loop-i.invariant.1 }
