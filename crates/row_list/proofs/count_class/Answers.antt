use Prim.Native.Nat.{ℕ}
use mathlib.Core.Path.{◌≡◌}
use lib.ListN.{get_or}
use lib.Dec.{eqb}
use native.Mathlib.Omega.{arith}
use Rattle.row_list.proofs.Numbers.{count_none, count-more, one-small}
use borrow.Author.Rules.{rules}
use Rattle.row_list.proofs.count_class.Goals as goal

pub loop-i-init : goal.loop-i-init
loop-i-init c = (
  search rules,
  search rules,
  count_none (λ (j : ℕ). eqb (get_or c.args.classes.now j 0) c.args.class),
)

pub overflow_add-n : goal.overflow_add-n
overflow_add-n c =
    let k = one-small (eqb (get_or c.args.classes.now c.loop-i.i 0) c.args.class) _ c.one_if-n.ensures in
    omega (arith, k, c.loop-i.invariant.1, c.loop-i.invariant.0)

pub loop-i-preserved : goal.loop-i-preserved
loop-i-preserved c =
    let k = one-small (eqb (get_or c.args.classes.now c.loop-i.i 0) c.args.class) _ c.one_if-n.ensures in (
      search rules,
      omega (arith, k, c.loop-i.invariant.1),
      count-more (λ (j : ℕ). eqb (get_or c.args.classes.now j 0)
          c.args.class) _ _ _ c.loop-i.invariant.2 c.one_if-n.ensures,
    )

pub returns : goal.returns
returns c =
    let e : c.loop-i.i ≡ c.args.rows = omega arith in
    rw e at c.loop-i.invariant.2
