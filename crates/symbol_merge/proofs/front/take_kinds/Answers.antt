use mathlib.Core.Path.{◌≡◌}
use native.Mathlib.Omega.{arith}
use Rattle.symbol_merge.proofs.Taken.{Taken, taken_none, taken_more, taken-kinds, taken-values}
use Rattle.symbol_merge.proofs.front.take_kinds.Goals as goal

pub loop-j-init : goal.loop-j-init
loop-j-init c = (omega arith, taken_none _ _)

pub bounds-bits-j : goal.bounds-bits-j
bounds-bits-j c =
    omega (arith, c.loop-j-test.true, c.loop-j.invariant.1.size, c.requires.n_in_bounds.0, c.requires.n_in_bounds.1)

pub loop-j-preserved : goal.loop-j-preserved
loop-j-preserved c = (
  omega (arith, c.loop-j-test.true),
  taken_more c.args.told.now c.args.bits.now c.loop-j.bits c.loop-j.j (omega (arith, c.loop-j-test.true, c.loop-j.invariant.1.size, c.requires.n_in_bounds.0, c.requires.n_in_bounds.1)) c.loop-j.invariant.1,
)

pub shape_of-bits : goal.shape_of-bits
shape_of-bits c = c.loop-j.invariant.1.size

pub returns : goal.returns
returns c =
    let e : c.loop-j.j ≡ c.args.n = omega (arith, c.loop-j.invariant.0, c.loop-j-test.false) in
    let T : Taken c.args.told.now c.args.bits.now c.loop-j.bits c.args.n = rw e at c.loop-j.invariant.1 in
    record { bits_after = taken-kinds _ _ _ _ T c.requires.n_in_bounds.1 c.requires.by_index; bits_unchanged = taken-values _ _ _ _ T }
