use mathlib.Core.Path.{refl, ◌∙◌}
use native.Mathlib.Omega.{arith}
use lib.ListN.{length-set}
use Rattle.slowest.proofs.Writing.{none_written, table-turn, table-end}
use Rattle.slowest.proofs.build.write_table.Goals as goal

pub loop-i-init : goal.loop-i-init
loop-i-init c = (omega arith, refl, none_written _)

pub loop-i-preserved : goal.loop-i-preserved
loop-i-preserved c = (
  omega (arith, c.loop-i.invariant.0, c.loop-i-test.true),
  length-set c.loop-i.table c.loop-i.i 1 ∙ c.loop-i.invariant.1,
  table-turn _ _ _ (omega (
    arith,
    c.requires,
    c.loop-i-test.true,
  )) c.loop-i.invariant.2,
)

pub returns : goal.returns
returns c = table-end _ _ _ _ c.loop-i.invariant.0 (omega (arith, c.loop-i-test.false)) c.loop-i.invariant.2
