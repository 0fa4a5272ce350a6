use mathlib.Core.Path.{◌≡◌}
use native.Mathlib.Omega.{arith}
use Rattle.symbol_merge.proofs.Fronts.{fronted-none, as_long, exchanged_more}
use Rattle.symbol_merge.proofs.front.exchange_front.Goals as goal

pub loop-i-init : goal.loop-i-init
loop-i-init c = (omega arith, fronted-none _ _, fronted-none _ _)

pub bounds-rs-i : goal.bounds-rs-i
bounds-rs-i c = omega (arith, c.loop-i-test.true, as_long _ _ _ _ c.loop-i.invariant.1, c.requires.0)

pub bounds-src-i : goal.bounds-src-i
bounds-src-i c = omega (arith, c.loop-i-test.true, as_long _ _ _ _ c.loop-i.invariant.2, c.requires.1)

pub bounds-rs-i-in-loop-i : goal.bounds-rs-i-in-loop-i
bounds-rs-i-in-loop-i c = omega (arith, c.loop-i-test.true, as_long _ _ _ _ c.loop-i.invariant.1, c.requires.0)

pub bounds-src-i-in-loop-i : goal.bounds-src-i-in-loop-i
bounds-src-i-in-loop-i c = omega (arith, c.loop-i-test.true, as_long _ _ _ _ c.loop-i.invariant.2, c.requires.1)

pub loop-i-preserved : goal.loop-i-preserved
loop-i-preserved c = (
  omega (arith, c.loop-i-test.true),
  exchanged_more _ _ _ _ _ c.loop-i.invariant.1 c.loop-i.invariant.2 (omega (
    arith,
    c.loop-i-test.true,
    c.requires.1,
  )) (omega (arith, c.loop-i-test.true, c.requires.0)),
  exchanged_more _ _ _ _ _ c.loop-i.invariant.2 c.loop-i.invariant.1 (omega
      (arith, c.loop-i-test.true, c.requires.0)) (omega (arith, c.loop-i-test.true, c.requires.1)),
)

pub shape_of-rs : goal.shape_of-rs
shape_of-rs c = as_long _ _ _ _ c.loop-i.invariant.1

pub shape_of-src : goal.shape_of-src
shape_of-src c = as_long _ _ _ _ c.loop-i.invariant.2

pub returns : goal.returns
returns c =
    let w : c.loop-i.i ≡ c.args.size = omega (arith, c.loop-i.invariant.0, c.loop-i-test.false) in
    record { rs_after = rw w at c.loop-i.invariant.1; src_after = rw w at c.loop-i.invariant.2 }
