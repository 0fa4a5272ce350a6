use mathlib.Core.Path.{refl}
use Prim.Native.Nat.{◌<◌}
use native.Mathlib.Omega.{arith}
use borrow.Author.Tests.{ltb-true}
use lib.Dec.{ltb}
use Rattle.records.proofs.Laws.{and_left, and_right}
use Rattle.column_table.proofs.Propagating.{passed_none, passed-more, passed-end}
use Rattle.propagate_equalities.proofs.Quiet.{quiet-first}
use borrow.Author.Rules.{rules}
use Rattle.propagate_equalities.proofs.propagate.propagate_equalities.Goals as goal

pub loop-passes-init : goal.loop-passes-init
loop-passes-init c = (
  omega arith,
  (λ T equals S. passed_none _ _ _ _ _ _ _ _ T S),
  c.requires.fits.0,
  refl,
  refl,
  quiet-first _ _ _
      _ c.requires.edges_below,
)

pub propagate_pass-m-requires : goal.propagate_pass-m-requires
propagate_pass-m-requires c =
    record { fits = (c.loop-passes.invariant.2, c.requires.fits.1, c.requires.fits.2, c.requires.fits.3); edges_below = c.requires.edges_below; fact = c.loop-passes.invariant.5 }

pub overflow_add-passes : goal.overflow_add-passes
overflow_add-passes c =
    let h : c.loop-passes.passes < c.args.columns = ltb-true _ _ (and_left (ltb c.loop-passes.passes c.args.columns) c.loop-passes.going c.loop-passes-test.true) in
    search (rules, h)

pub loop-passes-smaller : goal.loop-passes-smaller
loop-passes-smaller c =
    let h : c.loop-passes.passes < c.args.columns = ltb-true _ _ (and_left (ltb c.loop-passes.passes c.args.columns) c.loop-passes.going c.loop-passes-test.true) in
    omega (arith, h)

pub loop-passes-preserved : goal.loop-passes-preserved
loop-passes-preserved c =
    let h : c.loop-passes.passes < c.args.columns = ltb-true _ _ (and_left (ltb c.loop-passes.passes c.args.columns) c.loop-passes.going c.loop-passes-test.true) in (
      omega (arith, h),
      (λ T equals S. passed-more _ _ _ _ _ _ _ _ _ _ _ _ T h (and_right (ltb c.loop-passes.passes c.args.columns) c.loop-passes.going c.loop-passes-test.true) (c.loop-passes.invariant.1 T equals S) (λ U R. c.propagate_pass-m.ensures.edges_merged U
          equals R)),
      c.propagate_pass-m.ensures.fits_2,
      search rules,
      search rules,
      c.propagate_pass-m.ensures.fact_2,
    )

pub returns : goal.returns
returns c =
    record { spread = (λ T equals S. passed-end _ _ _ _ _ _ _ _ T c.loop-passes.invariant.0 c.loop-passes-test.false (c.loop-passes.invariant.1 T equals S)); fits_2 = c.loop-passes.invariant.2 }
