-- `MintermIter`: the conjuncts of a record, left to right through And and LogicalAnd. A record reached twice counts
-- twice.
use Rattle.std.specs.Prelude.{List, [], ◌∷◌, ◌++◌, ℕ}
use Rattle.std.proofs.Math.Option.{Option, none, some}
use Rattle.records.specs.Course.{course}
use Rattle.truth.specs.AExpr.{AExpr, Column, Literal, Null, BinaryExpr, Not, IsNull, IsNotNull, IsBetween}
use Rattle.truth.specs.AExpr.{ListLiteral}
use Rattle.truth.specs.AExpr.{IsIn, Missing}
use Rattle.truth.specs.AExpr.{BinaryOp, Compare, EqValidity, NotEqValidity, FloorDivide, Modulus, And, Or, Xor, LogicalAnd}
use Rattle.truth.specs.AExpr.{LogicalOr}

abbrev pub sides_of : BinaryOp → ℕ → ℕ → Option (ℕ × ℕ)
sides_of (Compare c) left right = none
sides_of EqValidity left right = none
sides_of NotEqValidity left right = none
sides_of FloorDivide left right = none
sides_of Modulus left right = none
sides_of And left right = some (left, right)
sides_of Or left right = none
sides_of Xor left right = none
sides_of LogicalAnd left right = some (left, right)
sides_of LogicalOr left right = none

-- The two sides of an And or LogicalAnd.
abbrev pub and_sides : {Val : Type 0} → AExpr Val → Option (ℕ × ℕ)
and_sides (Column c) = none
and_sides (Literal v) = none
and_sides Null = none
and_sides (BinaryExpr op left right) = sides_of op left right
and_sides (Not a) = none
and_sides (IsNull a) = none
and_sides (IsNotNull a) = none
and_sides (IsBetween low_closed high_closed a low high) = none
and_sides (ListLiteral holds_null values) = none
and_sides (IsIn nulls_equal a list) = none
and_sides Missing = none

abbrev pub minterms_by : ℕ → (ℕ → List ℕ) → Option (ℕ × ℕ) → List ℕ
minterms_by n below none = n ∷ []
minterms_by n below (some sides) = below sides.0 ++ below sides.1

-- The conjuncts of node n, as nodes.
abbrev pub minterms : {Val : Type 0} → (ℕ → AExpr Val) → ℕ → List ℕ
minterms R n = course (λ a. a ∷ []) (λ below i. minterms_by i below (and_sides (R i))) n

-- What a stack of nodes, its top first, still has to give.
abbrev pub pending : {Val : Type 0} → (ℕ → AExpr Val) → List ℕ → List ℕ
pending R [] = []
pending R (n ∷ stack) = minterms R n ++ pending R stack
