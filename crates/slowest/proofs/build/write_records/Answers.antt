use mathlib.Core.Path.{refl}
use native.Mathlib.Omega.{arith}
use Rattle.slowest.proofs.Writing.{none-built, records-turn, records-end}
use borrow.Author.Rules.{rules}
use Rattle.slowest.proofs.build.write_records.Goals as goal

pub loop-i-init : goal.loop-i-init
loop-i-init c = (omega arith, refl, none-built _ _)

pub slowest_record-requires : goal.slowest_record-requires
slowest_record-requires c = c.requires.0

pub put_record-requires : goal.put_record-requires
put_record-requires c = omega (arith, c.loop-i.invariant.1, c.loop-i-test.true, c.requires.1)

pub loop-i-preserved : goal.loop-i-preserved
loop-i-preserved c = (
  omega (arith, c.loop-i.invariant.0, c.loop-i-test.true),
  search rules,
  records-turn _ _ _ _ _ _ (omega (
    arith,
    c.loop-i-test.true,
    c.requires.1,
  )) c.loop-i.invariant.2 c.slowest_record.ensures c.put_record.ensures,
)

pub returns : goal.returns
returns c = records-end _ _ _ _ c.loop-i.invariant.0 (omega (arith, c.loop-i-test.false)) c.loop-i.invariant.2
