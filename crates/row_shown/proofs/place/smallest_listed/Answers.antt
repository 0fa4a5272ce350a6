use mathlib.Core.Path.{refl}
use mathlib.Core.Bool.{false}
use native.Mathlib.Omega.{arith}
use Rattle.constraints.specs.Lined.{lined}
use Rattle.constraints.specs.Resolve.{is_feasible}
use Rattle.column_constraints.specs.Abstraction.{conjuncts, numbered, column_of}
use Rattle.row_shown.proofs.Smallest.{walk_none, walk_more, walk_end}
use Rattle.row_shown.proofs.place.smallest_listed.Goals as goal

pub loop-i-init : goal.loop-i-init
loop-i-init c =
    let C = column_of (conjuncts c.args.told.now c.args.pool.now) (numbered c.args.marks.now c.args.c) in
    (omega arith, walk_none (is_feasible lined C) _ _ _ false 0 refl)

pub loop-i-preserved : goal.loop-i-preserved
loop-i-preserved c =
    let C = column_of (conjuncts c.args.told.now c.args.pool.now) (numbered c.args.marks.now c.args.c) in (
      omega (arith, c.loop-i.invariant.0, c.loop-i-test.true),
      walk_more (is_feasible lined C) _ _ _ _ c.loop-i-test.true c.loop-i.invariant.0 _ _ _
          _ c.value_at.ensures c.is_possible-possible.ensures c.loop-i.invariant.1 c.smaller-best.ensures,
    )

pub returns : goal.returns
returns c =
    let C = column_of (conjuncts c.args.told.now c.args.pool.now) (numbered c.args.marks.now c.args.c) in
    walk_end (is_feasible lined C) _ _ _ _ _ _ _ _ c.loop-i-test.false c.loop-i.invariant.1 c.start_at-s.ensures c.count_at-m.ensures
