use Rattle.record_check.specs.Step.{binary_shape}
use borrow.Author.Tests.{not-false, lt-ltb}
use Rattle.records.proofs.Loops.{flag_no, flag_yes}
use Rattle.records.proofs.Laws.{flags}
use Rattle.record_check.specs.Step.{binary_step}
use native.Mathlib.Omega.{arith}
use mathlib.Core.Path.{ap}
use mathlib.Core.Bool.{not}
use Rattle.record_check.proofs.step.binary_step.Goals as goal

pub returns-then-not-f : goal.returns-then-not-f
unfolding binary_step
returns-then-not-f c = search (flags, ← c.refused.ensures)

pub returns-then-n-f : goal.returns-then-n-f
unfolding binary_step
returns-then-n-f c = search (flags, ← c.refused-then-n-f.ensures)

pub returns-then-n-f-2 : goal.returns-then-n-f-2
unfolding binary_step
returns-then-n-f-2 c = search (flags, ← c.refused-then-n-f-2.ensures)

pub returns-then-f : goal.returns-then-f
unfolding binary_step
returns-then-f c =
    rw (
      c.refused-then-f.ensures,
      not-false (binary_shape c.args.f) (ap not c.if-not-f.false),
      lt-ltb _ _ c.if-n-f.false,
      lt-ltb _ _ c.if-n-f-2.false,
      c.if-f.true,
    )

pub bounds-types-a : goal.bounds-types-a
bounds-types-a c = omega (arith, c.if-n-f.false, c.if-n-f-2.false, c.requires.n_in_bounds, c.requires.n_in_bounds_2)

pub bounds-types-b : goal.bounds-types-b
bounds-types-b c = omega (arith, c.if-n-f.false, c.if-n-f-2.false, c.requires.n_in_bounds, c.requires.n_in_bounds_2)

pub returns-then-not-pair_fits : goal.returns-then-not-pair_fits
unfolding binary_step
returns-then-not-pair_fits c =
    rw (
      c.refused-then-not-pair_fits.ensures,
      not-false (binary_shape c.args.f) (ap not c.if-not-f.false),
      lt-ltb _ _ c.if-n-f.false,
      lt-ltb _ _ c.if-n-f-2.false,
      c.if-f.false,
      flag_no c.pair_fits.ensures (ap not c.if-not-pair_fits.true),
    )

pub bounds-trees-a : goal.bounds-trees-a
bounds-trees-a c = omega (arith, c.if-n-f.false, c.if-n-f-2.false, c.requires.n_in_bounds, c.requires.n_in_bounds_2)

pub bounds-trees-b : goal.bounds-trees-b
bounds-trees-b c = omega (arith, c.if-n-f.false, c.if-n-f-2.false, c.requires.n_in_bounds, c.requires.n_in_bounds_2)

pub returns : goal.returns
unfolding binary_step
returns c =
    rw (
      c.passed.ensures,
      not-false (binary_shape c.args.f) (ap not c.if-not-f.false),
      lt-ltb _ _ c.if-n-f.false,
      lt-ltb _ _ c.if-n-f-2.false,
      c.if-f.false,
      flag_yes c.pair_fits.ensures (ap not c.if-not-pair_fits.false),
      c.binary_entry.ensures,
      c.wide.ensures.same,
      c.wide-2.ensures.same,
    )
