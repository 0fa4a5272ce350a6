-- `Operator` of the Rust (src/dsl/expr/mod.rs): the twenty variants in its order, their codes, and three of its methods.
use Rattle.std.specs.Prelude.{ℕ, Bool, true, false, ◌&&◌, List, [], ◌∷◌, get_or, leb, Option, Some, None}
use Rattle.records.specs.declared.operator.Operator.{Operator}
use Rattle.records.specs.declared.operator.Operator.TheVariants.{Eq, EqValidity, NotEq, NotEqValidity, Lt, LtEq, Gt, GtEq, Plus, Minus, Multiply, RustDivide, TrueDivide, FloorDivide, Modulus, And, Or, Xor, LogicalAnd, LogicalOr}

-- the Rust's order; the code of an operator is its place here
abbrev pub operators : List Operator
operators =
    Eq ∷ EqValidity ∷ NotEq ∷ NotEqValidity ∷ Lt ∷ LtEq ∷ Gt ∷ GtEq
    ∷ Plus ∷ Minus ∷ Multiply ∷ RustDivide ∷ TrueDivide ∷ FloorDivide ∷ Modulus
    ∷ And ∷ Or ∷ Xor ∷ LogicalAnd ∷ LogicalOr ∷ []

-- the operator of a code; above 19, which checking refuses, it reads as Eq
unfoldable pub operator_at : ℕ → Operator
operator_at code = get_or operators code Eq

abbrev pub code_of : Operator → ℕ
code_of Eq = 0
code_of EqValidity = 1
code_of NotEq = 2
code_of NotEqValidity = 3
code_of Lt = 4
code_of LtEq = 5
code_of Gt = 6
code_of GtEq = 7
code_of Plus = 8
code_of Minus = 9
code_of Multiply = 10
code_of RustDivide = 11
code_of TrueDivide = 12
code_of FloorDivide = 13
code_of Modulus = 14
code_of And = 15
code_of Or = 16
code_of Xor = 17
code_of LogicalAnd = 18
code_of LogicalOr = 19

-- Eq to GtEq
abbrev pub is_comparison : Operator → Bool
is_comparison o = leb (code_of o) 7

-- Plus to TrueDivide: arithmetic that is left out
abbrev pub is_left_out : Operator → Bool
is_left_out o = leb 8 (code_of o) && leb (code_of o) 12

-- FloorDivide and Modulus: two Ints give an Int
abbrev pub is_division : Operator → Bool
is_division o = leb 13 (code_of o) && leb (code_of o) 14

-- a null operand gives null; the validity variants take null as a value
abbrev pub is_null_propagating_comparison : Operator → Bool
is_null_propagating_comparison Eq = true
is_null_propagating_comparison EqValidity = false
is_null_propagating_comparison NotEq = true
is_null_propagating_comparison NotEqValidity = false
is_null_propagating_comparison Lt = true
is_null_propagating_comparison LtEq = true
is_null_propagating_comparison Gt = true
is_null_propagating_comparison GtEq = true
is_null_propagating_comparison Plus = false
is_null_propagating_comparison Minus = false
is_null_propagating_comparison Multiply = false
is_null_propagating_comparison RustDivide = false
is_null_propagating_comparison TrueDivide = false
is_null_propagating_comparison FloorDivide = false
is_null_propagating_comparison Modulus = false
is_null_propagating_comparison And = false
is_null_propagating_comparison Or = false
is_null_propagating_comparison Xor = false
is_null_propagating_comparison LogicalAnd = false
is_null_propagating_comparison LogicalOr = false

-- `b (swap_operands o) a` is equivalent to `a o b`; arithmetic that does not commute has none
abbrev pub swap_operands : Operator → Option Operator
swap_operands Eq = Some Eq
swap_operands EqValidity = Some EqValidity
swap_operands NotEq = Some NotEq
swap_operands NotEqValidity = Some NotEqValidity
swap_operands Lt = Some Gt
swap_operands LtEq = Some GtEq
swap_operands Gt = Some Lt
swap_operands GtEq = Some LtEq
swap_operands Plus = Some Plus
swap_operands Minus = None
swap_operands Multiply = Some Multiply
swap_operands RustDivide = None
swap_operands TrueDivide = None
swap_operands FloorDivide = None
swap_operands Modulus = None
swap_operands And = Some And
swap_operands Or = Some Or
swap_operands Xor = Some Xor
swap_operands LogicalAnd = Some LogicalAnd
swap_operands LogicalOr = Some LogicalOr

-- `a (negate o) b` is equivalent to `!(a o b)`, null or not; only the comparisons have such an operator
abbrev pub negate : Operator → Option Operator
negate Eq = Some NotEq
negate EqValidity = Some NotEqValidity
negate NotEq = Some Eq
negate NotEqValidity = Some EqValidity
negate Lt = Some GtEq
negate LtEq = Some Gt
negate Gt = Some LtEq
negate GtEq = Some Lt
negate Plus = None
negate Minus = None
negate Multiply = None
negate RustDivide = None
negate TrueDivide = None
negate FloorDivide = None
negate Modulus = None
negate And = None
negate Or = None
negate Xor = None
negate LogicalAnd = None
negate LogicalOr = None
