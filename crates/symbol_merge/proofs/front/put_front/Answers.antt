use mathlib.Core.Path.{◌≡◌, refl}
use native.Mathlib.Omega.{arith}
use Rattle.symbol_merge.proofs.Fronts.{fronted-none, as_long, fronted-more}
use Rattle.symbol_merge.proofs.front.put_front.Goals as goal

pub loop-i-init : goal.loop-i-init
loop-i-init c = (omega arith, fronted-none _ _)

pub bounds-rs-i : goal.bounds-rs-i
bounds-rs-i c = omega (arith, c.loop-i-test.true, as_long _ _ _ _ c.loop-i.invariant.1, c.requires.0)

pub loop-i-preserved : goal.loop-i-preserved
loop-i-preserved c = (
  omega (arith, c.loop-i-test.true),
  fronted-more _ _ _ _ _ c.loop-i.invariant.1 refl (omega (arith, c.loop-i-test.true, c.requires.1))
      (omega (arith, c.loop-i-test.true, c.requires.0)),
)

pub shape_of-rs : goal.shape_of-rs
shape_of-rs c = as_long _ _ _ _ c.loop-i.invariant.1

pub returns : goal.returns
returns c =
    let w : c.loop-i.i ≡ c.args.size = omega (arith, c.loop-i.invariant.0, c.loop-i-test.false) in
    rw w at c.loop-i.invariant.1
