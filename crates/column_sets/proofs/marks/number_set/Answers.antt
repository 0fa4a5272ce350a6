use mathlib.Core.Path.{◌≡◌}
use native.Mathlib.Omega.{arith}
use Rattle.column_sets.proofs.Asked.{number-none, number_more}
use borrow.Author.Rules.{rules}
use Rattle.column_sets.proofs.marks.number_set.Goals as goal

pub loop-i-init : goal.loop-i-init
loop-i-init c = (search rules, number-none _)

pub slice_bounds-put-end : goal.slice_bounds-put-end
slice_bounds-put-end c = search (rules, c.loop-i.invariant.1.size)

pub put-requires : goal.put-requires
put-requires c = omega (arith, c.byte-j.ensures, c.requires _ c.loop-i-test.true, c.loop-i.invariant.1.size)

pub loop-i-preserved : goal.loop-i-preserved
loop-i-preserved c =
    (search rules, number_more _ _ _ _ _ c.byte-j.ensures c.loop-i.invariant.1 (search rules) c.put.ensures)

pub returns : goal.returns
returns c =
    let e : c.loop-i.i ≡ c.args.n = omega (arith, c.loop-i.invariant.0, c.loop-i-test.false) in
    rw e at c.loop-i.invariant.1
