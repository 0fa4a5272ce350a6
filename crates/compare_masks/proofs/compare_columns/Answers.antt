use Rattle.masks.proofs.Comparing.{tells-same, code-0, code-1, code-2, code-3, code-4, code-5, code-6, code-7}
use Rattle.compare_masks.proofs.compare_columns.Goals as goal

pub returns-in-0 : goal.returns-in-0
returns-in-0 c =
    λ rows value second s q. tells-same rows _ _ _ (λ i h. code-0 _ _ _ c.in-0.is) (c.equal_columns.ensures
    rows value second s q)

pub returns-in-1 : goal.returns-in-1
returns-in-1 c =
    λ rows value second s q. tells-same rows _ _ _ (λ i h. code-1 _ _ _ c.in-1.is) (c.same_columns.ensures
    rows value second s q)

pub returns-in-2 : goal.returns-in-2
returns-in-2 c =
    λ rows value second s q. tells-same rows _ _ _ (λ i h. code-2 _ _ _ c.in-2.is) (c.not_masks.ensures rows
    _ (c.equal_columns-in-2.ensures rows value second s q))

pub returns-in-3 : goal.returns-in-3
returns-in-3 c =
    λ rows value second s q. tells-same rows _ _ _ (λ i h. code-3 _ _ _ c.in-3.is) (c.not_masks-in-3.ensures
    rows _ (c.same_columns-in-3.ensures rows value second s q))

pub returns-in-4 : goal.returns-in-4
returns-in-4 c =
    λ rows value second s q. tells-same rows _ _ _ (λ i h. code-4 _ _ _ c.in-4.is) (c.less_columns.ensures
    rows value second s q)

pub returns-in-5 : goal.returns-in-5
returns-in-5 c =
    λ rows value second s q. tells-same rows _ _ _ (λ i h. code-5 _ _ _ c.in-5.is) (c.not_masks-in-5.ensures
    rows _ (c.less_columns-in-5.ensures rows second value q s))

pub returns-in-6 : goal.returns-in-6
returns-in-6 c =
    λ rows value second s q. tells-same rows _ _ _ (λ i h. code-6 _ _ _ c.in-6.is) (c.less_columns-in-6.ensures
    rows second value q s)

pub returns-in_default : goal.returns-in_default
returns-in_default c =
    let k = c.in_default.in_default-own.rest in
    λ rows value second s q. tells-same rows _ _ _ (λ i h. code-7 _ _ _ k.0.0.0.0.0.0.1 k.0.0.0.0.0.1 k.0.0.0.0.1 k.0.0.0.1 k.0.0.1 k.0.1 k.1) (c.not_masks-in_default.ensures rows _
    (c.less_columns-in_default.ensures rows value second s q))
