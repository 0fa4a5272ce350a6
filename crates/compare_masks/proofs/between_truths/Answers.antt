use Rattle.masks.proofs.Comparing.{tells-same, between-compared, low-above, high-above}
use Rattle.compare_masks.proofs.between_truths.Goals as goal

pub compare_truths-above-requires : goal.compare_truths-above-requires
compare_truths-above-requires c = low-above _ _ c.low_code.ensures

pub compare_truths-below-requires : goal.compare_truths-below-requires
compare_truths-below-requires c = high-above _ _ c.high_code.ensures

pub returns : goal.returns
returns c =
    λ rows f g h s q t. tells-same rows _ _ _ (λ i l. between-compared _ _ _ _ _ _ c.low_code.ensures
    c.high_code.ensures) (c.and_masks.ensures rows _ _ (c.compare_truths-above.ensures rows f g s q) (c.compare_truths-below.ensures rows f h s t))
