use mathlib.Core.Path.{refl}
use native.Mathlib.Omega.{arith}
use Rattle.masks.proofs.Literals.{less-literal_tells}
use Rattle.literal_masks.proofs.less_literal.Goals as goal

pub returns : goal.returns
returns c =
    λ chain s. less-literal_tells _ _ _ _ _ _ c.args.v c.requires.c_lt_columns c.requires.rows_bound (omega arith)
    c.mask_below-m.ensures.wide _ _ _ c.inverted.ensures refl refl chain s c.mask_below-m.ensures.value
