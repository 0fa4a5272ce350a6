-- Small cases of the row shown, computed.
use mathlib.Core.Path.{◌≡◌, refl}
use mathlib.Core.Bool.{true, false}
use mathlib.Core.List.{[], ◌∷◌}
use mathlib.Core.Option.{none, some}
use Prim.Native.Nat.{ℕ}
use Rattle.constraints.specs.declared.column.Nullability.TheVariants.{Unconstrained, Null}
use Rattle.constraints.specs.Payload.{payload}
use Rattle.constraints.specs.Bound.{absent, at}
use Rattle.constraints.specs.Column.{column, empty}
use Rattle.constraints.specs.Column.{Allow, Require}
use Rattle.merge.specs.Classify.{Equality, Recorded}
use Rattle.merge.specs.Collect.{Collected, begin, collect}
use Rattle.row_shown.specs.Shown.{exactly, plus_half, minus_half, value_place, null_shown, place_shown}

-- `c >= 5`, `c <= 7`, both, both at 5, nothing
lower-case : value_place (column (at true 5) absent [] none [] false Unconstrained false) ≡ plus_half 5
unfolding value_place payload
lower-case = refl

upper-case : value_place (column absent (at true 7) [] none [] false Unconstrained false) ≡ minus_half 7
unfolding value_place payload
upper-case = refl

both-case : value_place (column (at false 5) (at true 7) [] none [] false Unconstrained false) ≡ plus_half 5
unfolding value_place payload
both-case = refl

fixed_case : value_place (column (at true 5) (at true 5) [] none [] false Unconstrained false) ≡ exactly 5
unfolding value_place payload
fixed_case = refl

empty-case : value_place empty ≡ plus_half 0
unfolding value_place payload
empty-case = refl

-- the smallest value of a list that is possible: 0 is below the bound and 2 is excluded; -1 is smaller than 0
list-case : value_place (column (at false 1) absent (2 ∷ []) (some (4 ∷ 2 ∷ 3 ∷ 0 ∷ [])) [] false Unconstrained false) ≡ exactly 3
unfolding value_place payload
list-case = refl

signed-case : value_place (column absent absent [] (some (3 ∷ 18446744073709551615 ∷ 0 ∷ [])) [] false Unconstrained false)
    ≡ exactly 18446744073709551615
unfolding value_place payload
signed-case = refl

-- `c0 in [2,1], c1 in [1,2], c0 == c1, c2 is null`: both are 1; column 3 is not read
abbrev four : Collected ℕ
four =
    collect payload (Recorded false 9 0 (Allow (2 ∷ 1 ∷ []) ∷ []) ∷ Recorded false 10 1 (Allow (1 ∷ 2 ∷ []) ∷ [])
    ∷ Equality 0 1 11 ∷ Recorded true 12 2 (Require Null ∷ []) ∷ []) begin

first-case : place_shown four 0 ≡ exactly 1
unfolding value_place payload
first-case = refl

second_case : place_shown four 1 ≡ exactly 1
unfolding value_place payload
second_case = refl

null_case : null_shown four 2 ≡ true
unfolding payload
null_case = refl

unread_case : null_shown four 3 ≡ true
unfolding payload
unread_case = refl

read_case : null_shown four 1 ≡ false
unfolding payload
read_case = refl
