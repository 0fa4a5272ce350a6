use Rattle.masks.proofs.Comparing.{tells-same, code-15, code-16, code-17, code-18, code-19}
use Rattle.compare_masks.proofs.connect_masks.Goals as goal

pub returns-in-15 : goal.returns-in-15
returns-in-15 c =
    λ rows f g s q. tells-same rows _ _ _ (λ i h. code-15 _ _ _ c.in-15.is) (c.and_masks.ensures rows f g s
    q)

pub returns-in-16 : goal.returns-in-16
returns-in-16 c =
    λ rows f g s q. tells-same rows _ _ _ (λ i h. code-16 _ _ _ c.in-16.is) (c.or_masks.ensures rows f g s q)

pub returns-in-17 : goal.returns-in-17
returns-in-17 c =
    λ rows f g s q. tells-same rows _ _ _ (λ i h. code-17 _ _ _ c.in-17.is) (c.xor_masks.ensures rows f g s
    q)

pub returns-in-18 : goal.returns-in-18
returns-in-18 c =
    λ rows f g s q. tells-same rows _ _ _ (λ i h. code-18 _ _ _ c.in-18.is) (c.and_masks-in-18.ensures rows f g s
    q)

pub returns-in_default : goal.returns-in_default
returns-in_default c =
    let k = c.in_default.in_default-own.rest in
    λ rows f g s q. tells-same rows _ _ _ (λ i h. code-19 _ _ _ k.0.0.0.1 k.0.0.1 k.0.1 k.1)
    (c.or_masks-in_default.ensures rows f g s q)
