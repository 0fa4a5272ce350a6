use Rattle.masks.proofs.Comparing.{tells-same, code-0, code-2, code-4, code-5, code-6, code-7}
use Rattle.literal_masks.proofs.compare_literal.Goals as goal

pub returns-in-0 : goal.returns-in-0
returns-in-0 c = λ chain s. tells-same _ _ _ _ (λ i h. code-0 _ _ _ c.in-0.is) (c.equal_literal.ensures chain s)

pub returns-in-2 : goal.returns-in-2
returns-in-2 c =
    λ chain s. tells-same _ _ _ _ (λ i h. code-2 _ _ _ c.in-2.is) (c.not_masks.ensures _ _ (c.equal_literal-in-2.ensures chain s))

pub returns-in-4 : goal.returns-in-4
returns-in-4 c = λ chain s. tells-same _ _ _ _ (λ i h. code-4 _ _ _ c.in-4.is) (c.less_literal.ensures chain s)

pub returns-in-5 : goal.returns-in-5
returns-in-5 c =
    λ chain s. tells-same _ _ _ _ (λ i h. code-5 _ _ _ c.in-5.is) (c.not_masks-in-5.ensures _ _ (c.more_literal.ensures chain s))

pub returns-in-6 : goal.returns-in-6
returns-in-6 c = λ chain s. tells-same _ _ _ _ (λ i h. code-6 _ _ _ c.in-6.is) (c.more_literal-in-6.ensures chain s)

pub returns-in_default : goal.returns-in_default
returns-in_default c =
    let k = c.in_default.in_default-own.rest in
    λ chain s. tells-same _ _ _ _ (λ i h. code-7 _ _ _ k.0.0.0.0.1 c.requires.fact k.0.0.0.1 c.requires.fact_2 k.0.0.1 k.0.1 k.1) (c.not_masks-in_default.ensures _ _ (c.less_literal-in_default.ensures chain s))
