use Rattle.record_check.specs.Step.{between_shape}
use Prim.Native.Nat.{◌%◌}
use lib.ListN.{get_or}
use borrow.Author.Tests.{not-true, not-false, lt-ltb}
use Rattle.record_check.specs.Fit.{between_fits, same_type}
use Rattle.records.proofs.Laws.{flags}
use Rattle.record_check.specs.Step.{between_step}
use native.Mathlib.Omega.{arith}
use mathlib.Core.Path.{ap}
use mathlib.Core.Bool.{not}
use Rattle.record_check.proofs.step.between_step.Goals as goal

pub returns-then-not-f : goal.returns-then-not-f
unfolding between_step
returns-then-not-f c = search (flags, ← c.refused.ensures)

pub returns-then-n-f : goal.returns-then-n-f
unfolding between_step
returns-then-n-f c = search (flags, ← c.refused-then-n-f.ensures)

pub returns-then-n-f-2 : goal.returns-then-n-f-2
unfolding between_step
returns-then-n-f-2 c = search (flags, ← c.refused-then-n-f-2.ensures)

pub returns-then-n-f-3 : goal.returns-then-n-f-3
unfolding between_step
returns-then-n-f-3 c = search (flags, ← c.refused-then-n-f-3.ensures)

pub bounds-types-a : goal.bounds-types-a
bounds-types-a c =
    omega (arith, c.if-n-f.false, c.if-n-f-2.false, c.if-n-f-3.false, c.requires.n_in_bounds, c.requires.n_in_bounds_2)

pub bounds-types-b : goal.bounds-types-b
bounds-types-b c =
    omega (arith, c.if-n-f.false, c.if-n-f-2.false, c.if-n-f-3.false, c.requires.n_in_bounds, c.requires.n_in_bounds_2)

pub bounds-types-c : goal.bounds-types-c
bounds-types-c c =
    omega (arith, c.if-n-f.false, c.if-n-f-2.false, c.if-n-f-3.false, c.requires.n_in_bounds, c.requires.n_in_bounds_2)

pub returns-then-not-x-types : goal.returns-then-not-x-types
unfolding between_step between_fits same_type
returns-then-not-x-types c =
    let f = c.args.f in
    let types = c.args.types.now in
    rw (
      c.refused-then-not-x-types.ensures,
      not-false (between_shape f) (ap not c.if-not-f.false),
      lt-ltb _ _ c.if-n-f.false,
      lt-ltb _ _ c.if-n-f-2.false,
      lt-ltb _ _ c.if-n-f-3.false,
      not-true (between_fits (get_or types f.a 0 % 8) (get_or types f.b 0 % 8) (get_or types f.c 0 % 8)) (ap not c.if-not-x-types.true),
    )

pub bounds-trees-a : goal.bounds-trees-a
bounds-trees-a c =
    omega (arith, c.if-n-f.false, c.if-n-f-2.false, c.if-n-f-3.false, c.requires.n_in_bounds, c.requires.n_in_bounds_2)

pub bounds-trees-b : goal.bounds-trees-b
bounds-trees-b c =
    omega (arith, c.if-n-f.false, c.if-n-f-2.false, c.if-n-f-3.false, c.requires.n_in_bounds, c.requires.n_in_bounds_2)

pub bounds-trees-c : goal.bounds-trees-c
bounds-trees-c c =
    omega (arith, c.if-n-f.false, c.if-n-f-2.false, c.if-n-f-3.false, c.requires.n_in_bounds, c.requires.n_in_bounds_2)

pub returns : goal.returns
unfolding between_step between_fits same_type
returns c =
    let f = c.args.f in
    let types = c.args.types.now in
    rw (
      c.passed.ensures,
      not-false (between_shape f) (ap not c.if-not-f.false),
      lt-ltb _ _ c.if-n-f.false,
      lt-ltb _ _ c.if-n-f-2.false,
      lt-ltb _ _ c.if-n-f-3.false,
      not-false (between_fits (get_or types f.a 0 % 8) (get_or types f.b 0 % 8) (get_or types f.c 0 % 8)) (ap not c.if-not-x-types.false),
      c.wide.ensures.same,
      c.wide-2.ensures.same,
      c.wide-3.ensures.same,
    )
