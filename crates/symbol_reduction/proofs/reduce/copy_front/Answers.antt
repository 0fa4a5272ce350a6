use native.Mathlib.Omega.{arith}
use mathlib.Core.Path.{◌≡◌, refl}
use lib.ListN.{get_or, length-set}
use Rattle.symbol_reduction.proofs.Constants.{copied_more}
use borrow.Author.Rules.{rules}
use Rattle.symbol_reduction.proofs.reduce.copy_front.Goals as goal

pub loop-i-init : goal.loop-i-init
loop-i-init c = (search rules, refl, λ j h. absurd (omega (arith, h)))

pub bounds-records-i : goal.bounds-records-i
bounds-records-i c = omega (arith, c.loop-i-test.true, c.requires.count_in_bounds)

pub bounds-out-i : goal.bounds-out-i
bounds-out-i c = omega (arith, c.loop-i-test.true, c.requires.count_in_bounds_2, c.loop-i.invariant.1)

pub loop-i-preserved : goal.loop-i-preserved
loop-i-preserved c =
    let s = c.loop-i.invariant in (
      omega (arith, c.loop-i-test.true),
      simp length-set s.1,
      copied_more c.args.records.now c.loop-i.out c.loop-i.i
          (omega (arith, c.loop-i-test.true, c.requires.count_in_bounds_2, s.1)) s.2 (get_or c.args.records.now c.loop-i.i 0) refl,
    )

pub shape_of-out : goal.shape_of-out
shape_of-out c = c.loop-i.invariant.1

pub returns : goal.returns
returns c =
    let w : c.loop-i.i ≡ c.args.count = omega arith in
    rw w at c.loop-i.invariant.2
