-- What one column is written out as, worked: the constraints it takes in, whether it is impossible, its comparisons.
use mathlib.Core.Path.{◌≡◌, refl}
use mathlib.Core.Bool.{Bool, true, false}
use mathlib.Core.List.{List, [], ◌∷◌, map}
use Prim.Native.Nat.{ℕ}
use Rattle.constraints.specs.declared.column.Nullability.TheVariants.{Null, NonNull}
use Rattle.constraints.specs.Column.{ColumnConstraints, Constraint, Lower, Upper, Exclude, Allow, Disallow}
use Rattle.constraints.specs.Column.{Require}
use Rattle.constraints.specs.Column.{empty, add_all}
use Rattle.constraints.specs.Resolve.{resolve_deferred}
use Rattle.constraints.specs.Comparisons.{ColumnComparison, IsEq, IsLower, IsUpper, IsNotEq}
use Rattle.constraints.specs.Comparisons.{collect_column_comparisons}
use Rattle.constraints.specs.Payload.{payload}

-- Constraints, whether they are impossible together, what is written out if not.
abbrev table : List (List (Constraint ℕ) × Bool × List (ColumnComparison ℕ))
table =
    -- > 3, > 5
    (Lower false 3 ∷ Lower false 5 ∷ [], false, IsLower false 5 ∷ [])
    -- >= 3, <= 3
    ∷ (Lower true 3 ∷ Upper true 3 ∷ [], false, IsEq 3 ∷ [])
    -- >= 3, < 3
    ∷ (Lower true 3 ∷ Upper false 3 ∷ [], true, [])
    -- > 3, < 4: there is no whole number between, but a half one
    ∷ (Lower false 3 ∷ Upper false 4 ∷ [], false, IsLower false 3 ∷ IsUpper false 4 ∷ [])
    -- > 3, >= 3: closed only if both are
    ∷ (Lower false 3 ∷ Lower true 3 ∷ [], false, IsLower false 3 ∷ [])
    -- >= 3, != 3
    ∷ (Lower true 3 ∷ Exclude 3 ∷ [], false, IsLower false 3 ∷ [])
    -- != 5, != 3, != 5, != 4 with <= 9: in order of insertion
    ∷ (
      Exclude 5 ∷ Exclude 3 ∷ Exclude 5 ∷ Exclude 4 ∷ Upper true 9 ∷ [],
      false,
      IsUpper true 9 ∷ IsNotEq 5 ∷ IsNotEq
          3 ∷ IsNotEq 4 ∷ [],
    )
    -- != 3, != 9 with > 3, <= 8: both drop
    ∷ (Exclude 3 ∷ Exclude 9 ∷ Lower false 3 ∷ Upper true 8 ∷ [], false, IsLower false 3 ∷ IsUpper true 8 ∷ [])
    -- in [1, 2], in [2, 3], != 2
    ∷ (Allow (1 ∷ 2 ∷ []) ∷ Allow (2 ∷ 3 ∷ []) ∷ Exclude 2 ∷ [], true, [])
    -- in [1, 2], >= 2
    ∷ (Allow (1 ∷ 2 ∷ []) ∷ Lower true 2 ∷ [], false, IsLower true 2 ∷ [])
    -- == 2, not in [2]
    ∷ (Lower true 2 ∷ Upper true 2 ∷ Disallow true (2 ∷ []) ∷ [], true, [])
    -- null, not in [1]; null, not in [1] with nulls_equal; null, not in []
    ∷ (Require Null ∷ Disallow true (1 ∷ []) ∷ [], true, [])
    ∷ (Require Null ∷ Disallow false (1 ∷ []) ∷ [], false, [])
    ∷ (Require Null ∷ Disallow true [] ∷ [], false, [])
    -- null, != 1; null, not null
    ∷ (Require Null ∷ Exclude 1 ∷ [], true, [])
    ∷ (Require Null ∷ Require NonNull ∷ [], true, [])
    -- -1 < 0: the bits are signed
    ∷ (Lower true 18446744073709551615 ∷ Lower true 0 ∷ [], false, IsLower true 0 ∷ [])
    ∷ []

abbrev left : Bool → List (ColumnComparison ℕ) → List (ColumnComparison ℕ)
left true l = []
left false l = l

abbrev yielded : (List (Constraint ℕ) × Bool × List (ColumnComparison ℕ)) → Bool × List (ColumnComparison ℕ)
yielded c =
    let cc = resolve_deferred payload (add_all payload c.0 empty) in
    (cc.unsat, left cc.unsat (collect_column_comparisons payload cc))

abbrev due : (List (Constraint ℕ) × Bool × List (ColumnComparison ℕ)) → Bool × List (ColumnComparison ℕ)
due c = (c.1, c.2)

pub column-cases : map yielded table ≡ map due table
unfolding payload
column-cases = refl
