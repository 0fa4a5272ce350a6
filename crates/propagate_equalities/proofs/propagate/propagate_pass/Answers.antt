use mathlib.Core.Path.{◌≡◌, refl}
use native.Mathlib.Omega.{arith}
use Rattle.column_table.proofs.Propagating.{merged_none, merged_more}
use Rattle.propagate_equalities.proofs.Quiet.{quiet_none, quiet-begin, quiet-more, quiet-on}
use borrow.Author.Rules.{rules}
use Rattle.propagate_equalities.proofs.propagate.propagate_pass.Goals as goal

pub loop-e-init : goal.loop-e-init
loop-e-init c = (
  omega arith,
  (λ T equals S. merged_none _ _ _ _ _ equals T S),
  c.requires.fits.0,
  refl,
  refl,
  quiet_none _ _ _
      _,
  quiet-begin _ _ _ _ _ c.requires.fact,
)

pub sweep_edge-m-requires : goal.sweep_edge-m-requires
sweep_edge-m-requires c =
    record { fits = (c.loop-e.invariant.2, (c.requires.edges_below _ c.loop-e-test.true).0, (c.requires.edges_below _ c.loop-e-test.true).1, c.requires.fits.3); fact = c.loop-e.invariant.6.edge _ c.loop-e-test.true }

pub loop-e-preserved : goal.loop-e-preserved
loop-e-preserved c = (
  omega (arith, c.loop-e-test.true),
  (λ T equals S. merged_more _ _ _ _ _ _ _ _ _ _ _ _ _ T (c.loop-e.invariant.1 T equals S)
      c.sweep_edge-m.ensures.edge_merged),
  c.sweep_edge-m.ensures.fits_2,
  search rules,
  search rules,
  quiet-more _ _ _ _ _ _ _
      c.requires.edges_below c.loop-e-test.true c.sweep_edge-m.ensures.fact_2 _ c.loop-e.invariant.5,
  quiet-on _ _ _ _ _ _ _ c.requires.edges_below c.loop-e-test.true c.sweep_edge-m.ensures.fact_2 c.args.before c.loop-e.word c.loop-e.invariant.6,
)

pub returns : goal.returns
returns c =
    let e : c.loop-e.e ≡ c.args.edges = omega (arith, c.loop-e.invariant.0, c.loop-e-test.false) in
    record { edges_merged = (λ T equals S. rw (← e) (c.loop-e.invariant.1 T equals S)); fits_2 = c.loop-e.invariant.2; fact_2 = rw (← e) c.loop-e.invariant.5 }
