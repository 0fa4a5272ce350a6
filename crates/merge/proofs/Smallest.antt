-- Two sentences of 02 that no other law here says of the definitions, on the smallest lines there are. Crate `merge_cases` has
-- the cases from bytes.
use mathlib.Core.Path.{◌≡◌, refl}
use mathlib.Core.Bool.{true}
use mathlib.Core.List.{[], ◌∷◌}
use Rattle.constraints.specs.Column.{Lower}
use Rattle.constraints.specs.Comparisons.{IsLower}
use Rattle.constraints.specs.Payload.{payload}
use Rattle.merge.specs.Classify.{Normalized, Equality}
use Rattle.merge.specs.Emit.{Rebuilt, merge_filter_constraints}
use Rattle.merge.specs.Passes.{merge_passes}

-- 2.1: a negated line forces a rebuild, also alone: Not (c0 < 3) becomes c0 >= 3.
pub negation-rebuilds : merge_filter_constraints payload (Normalized 0 (Lower true 3 ∷ []) ∷ []) ≡
    Rebuilt [] ((0, IsLower true 3) ∷ [])
unfolding payload
negation-rebuilds = refl

-- 2.13: the last, quiet pass counts: c0 == c0 alone takes one.
pub quiet-counts : merge_passes payload (Equality 0 0 1 ∷ []) ≡ 1
unfolding payload
quiet-counts = refl
