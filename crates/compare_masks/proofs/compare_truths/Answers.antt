use native.Mathlib.Omega.{arith}
use Rattle.masks.proofs.Comparing.{tells-same, code-4, code-5, code-6, code-7}
use Rattle.compare_masks.proofs.compare_truths.Goals as goal

pub returns-in-4 : goal.returns-in-4
returns-in-4 c =
    λ rows f g s q. tells-same rows _ _ _ (λ i h. code-4 _ _ _ c.in-4.is) (c.less_truths.ensures rows f g s
    q)

pub returns-in-5 : goal.returns-in-5
returns-in-5 c =
    λ rows f g s q. tells-same rows _ _ _ (λ i h. code-5 _ _ _ c.in-5.is) (c.not_masks.ensures rows _
    (c.less_truths-in-5.ensures rows g f q s))

pub returns-in-6 : goal.returns-in-6
returns-in-6 c =
    λ rows f g s q. tells-same rows _ _ _ (λ i h. code-6 _ _ _ c.in-6.is) (c.less_truths-in-6.ensures rows g f q
    s)

pub returns-in_default : goal.returns-in_default
returns-in_default c =
    let k = c.in_default.in_default-own.rest in
    let b = c.requires in
    λ rows f g s q. tells-same rows _ _ _ (λ i h. code-7 _ _ _ (λ z. omega (arith, z, b)) (λ z. omega (
      arith,
      z,
      b,
    )) (λ z. omega (arith, z, b)) (λ z. omega (arith, z, b)) k.0.0.1 k.0.1 k.1) (c.not_masks-in_default.ensures rows _ (c.less_truths-in_default.ensures rows f g s q))
