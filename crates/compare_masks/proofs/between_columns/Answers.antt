use Rattle.masks.proofs.Comparing.{tells-same, between-compared}
use Rattle.compare_masks.proofs.between_columns.Goals as goal

pub returns : goal.returns
returns c =
    λ rows value low high s q t. tells-same rows _ _ _ (λ i h. between-compared _ _ _ _ _ _ c.low_code.ensures
    c.high_code.ensures) (c.and_masks.ensures rows _ _ (c.compare_columns-above.ensures rows value low s q)
    (c.compare_columns-below.ensures rows value high s t))
