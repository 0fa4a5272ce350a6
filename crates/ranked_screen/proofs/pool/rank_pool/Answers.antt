use mathlib.Core.Path.{◌≡◌, refl}
use Prim.Native.Nat.{◌*◌, ◌/◌}
use native.Mathlib.Omega.{arith}
use lib.ListN.{length}
use Rattle.ranked_screen.proofs.Pools.{pool-none, pool-more}
use borrow.Author.Rules.{rules}
use Rattle.ranked_screen.proofs.pool.rank_pool.Goals as goal

pub loop-k-init : goal.loop-k-init
loop-k-init c = (omega arith, refl, pool-none)

pub pool_value-requires : goal.pool_value-requires
pool_value-requires c = record { used_bound = c.requires.used_bound; k_bound = c.loop-k-test.true }

pub put_value-requires : goal.put_value-requires
put_value-requires c = omega (arith, c.loop-k.invariant.1, c.loop-k-test.true, c.requires.p_in_bounds)

pub loop-k-preserved : goal.loop-k-preserved
loop-k-preserved c = (
  omega (arith, c.loop-k-test.true),
  search rules,
  pool-more _ _ _ _ _ _ _ (omega (arith, c.pool_value.type_inv)) (omega
      (arith, c.loop-k.invariant.1, c.loop-k-test.true, c.requires.p_in_bounds)) c.pool_value.ensures c.put_value.ensures c.loop-k.invariant.2,
)

pub shape_of-pool : goal.shape_of-pool
shape_of-pool c = c.loop-k.invariant.1

pub returns : goal.returns
returns c =
    let w : c.loop-k.k ≡ 2 * (length c.args.p.now / 8) = omega (arith, c.loop-k.invariant.0, c.loop-k-test.false) in
    rw w at c.loop-k.invariant.2
