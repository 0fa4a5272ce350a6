use Rattle.show_row.proofs.merged.propagate_and_resolve.Goals as goal

pub returns : goal.returns
returns c =
    record { resolved = (λ T equals S. c.resolve_all.ensures.resolved _ (c.propagate_equalities.ensures.spread T equals S).shows); cells_len = c.resolve_all.ensures.fits_2.0.size }
