use mathlib.Core.Path.{◌∙◌}
use native.Mathlib.Omega.{arith}
use Rattle.pool_guides.proofs.guides.add_guides.Goals as goal

pub returns : goal.returns
returns c =
    λ q l. c.note_keys.ensures q l ∙ c.note_groups.ensures q l ∙ c.write_shift.ensures q l ∙ c.plant_tree-2.ensures q
    (omega (arith, l)) ∙ c.plant_tree.ensures q (omega (arith, l))
