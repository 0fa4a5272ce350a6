use mathlib.Core.Path.{refl, ◌∙◌}
use Prim.Native.Nat.{◌+◌}
use native.Mathlib.Omega.{arith}
use lib.ListN.{length-set}
use lib.Seq.{get_or-set_other}
use borrow.Author.Rules.{rules}
use Rattle.pool_guides.proofs.guides.plant_level.Goals as goal

pub loop-p-init : goal.loop-p-init
loop-p-init c = (search rules, search rules, search rules, (λ q l. refl), refl)

pub bounds-order-from : goal.bounds-order-from
bounds-order-from c = omega (arith, c.loop-p.invariant.4, c.requires.from_in_bounds.0)

pub bounds-order-tree : goal.bounds-order-tree
bounds-order-tree c =
    omega (arith, c.loop-p.invariant.4, c.requires.from_in_bounds.1, c.requires.size_nonzero.1, c.loop-p-test.true)

pub loop-p-preserved : goal.loop-p-preserved
loop-p-preserved c = (
  c.loop-p.invariant.0,
  search rules,
  search rules,
  (λ q l. get_or-set_other c.loop-p.order (c.args.tree + c.args.size
      + c.loop-p.p) q _ 0 (λ e. omega (arith, e, l)) ∙ c.loop-p.invariant.3 q l),
  simp length-set c.loop-p.invariant.4,
)

pub shape_of-order : goal.shape_of-order
shape_of-order c = c.loop-p.invariant.4

pub returns : goal.returns
returns c = c.loop-p.invariant.3
