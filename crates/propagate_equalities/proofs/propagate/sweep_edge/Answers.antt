use Rattle.propagate_equalities.proofs.Quiet.{neither, quiet-merged, noted_quiet, noted_still, noted_changed}
use mathlib.Core.Path.{ap}
use mathlib.Core.Bool.{not}
use Rattle.propagate_equalities.proofs.propagate.sweep_edge.Goals as goal

pub returns-then-not-left-right : goal.returns-then-not-left-right
returns-then-not-left-right c =
    let n = neither _ _ _ _ c.is_set-left.ensures c.is_set-right.ensures (ap not c.if-not-left-right.true) in
    record { edge_merged = (λ T S. quiet-merged _ _ _ T _ _ S c.requires.fits.1 c.requires.fits.2 (c.requires.fact.still n.0 n.1)); fits_2 = c.requires.fits.0; fact_2 = noted_quiet _ _ _ (c.requires.fact.still n.0 n.1) }

pub returns-then-m-impossible : goal.returns-then-m-impossible
returns-then-m-impossible c =
    record { edge_merged = c.merge_edge-m.ensures.edge_merged; fits_2 = c.merge_edge-m.ensures.fits; fact_2 = noted_changed _ _ _ _ _ _ _ _ _ c.requires.fits.0 c.requires.fits.1 c.requires.fits.2 c.merge_edge-m.ensures.edge_merged _ c.both_bits.ensures }

pub returns : goal.returns
returns c =
    record { edge_merged = c.merge_edge-m.ensures.edge_merged; fits_2 = c.merge_edge-m.ensures.fits; fact_2 = noted_still _ _ _ _ _ _ _ _ _ c.requires.fits.0 c.requires.fits.1 c.requires.fits.2 c.merge_edge-m.ensures.edge_merged _ _ c.is_impossible.ensures c.is_impossible-2.ensures c.if-m-impossible.false }
