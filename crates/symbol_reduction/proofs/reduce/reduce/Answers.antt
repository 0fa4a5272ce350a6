use native.Mathlib.Omega.{arith}
use mathlib.Core.Path.{◌≡◌, refl}
use borrow.Author.Rules.{rules}
use Rattle.symbol_reduction.proofs.reduce.reduce.Goals as goal

pub loop-i-init : goal.loop-i-init
loop-i-init c = (search rules, refl, c.requires.reduced)

pub reduce_record-requires : goal.reduce_record-requires
reduce_record-requires c =
    record { n_lt_used = c.loop-i-test.true; used_in_bounds = c.requires.used_in_bounds; used_in_bounds_2 = omega (arith, c.requires.used_in_bounds_2, c.loop-i.invariant.1); tested = c.requires.tested; reduced = c.loop-i.invariant.2 }

pub loop-i-preserved : goal.loop-i-preserved
loop-i-preserved c = (omega (arith, c.loop-i-test.true), search (rules, c.loop-i.invariant.1), c.reduce_record.ensures)

pub shape_of-out : goal.shape_of-out
shape_of-out c = c.loop-i.invariant.1

pub returns : goal.returns
returns c =
    let w : c.loop-i.i ≡ c.args.used = omega arith in
    rw w at c.loop-i.invariant.2
