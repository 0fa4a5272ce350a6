use native.Mathlib.Omega.{arith}
use borrow.Author.Rules.{rules}
use Rattle.far_lists.proofs.far.value_count.Goals as goal

pub overflow_add-total : goal.overflow_add-total
overflow_add-total c = omega (arith, c.loop-j.invariant.0, c.loop-j.invariant.1, c.requires, c.count_at.type_inv)

pub loop-j-preserved : goal.loop-j-preserved
loop-j-preserved c = (search rules, omega (arith, c.loop-j.invariant.1, c.count_at.type_inv))
