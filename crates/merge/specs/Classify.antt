-- `classify_into_constraints` and those below it: what is read of one conjunct. Each reader looks at its operands
-- only by their form (`as_column`, `as_scalar_lit`, `as_value_set`). Everything not named here is opaque and stays as
-- it is.
use Rattle.std.proofs.Math.Option.{Option, none, some}
use Rattle.std.specs.Prelude as code
use Rattle.std.specs.Prelude.{Bool, true, false, not, ◌&&◌, cond, List, [], ◌∷◌, map, ℕ, leb, eqb, length}
use Rattle.records.specs.Operator.{code_of, is_null_propagating_comparison, swap_operands, negate}
use Rattle.records.specs.declared.operator.Operator.{Operator}
use Rattle.records.specs.declared.operator.Operator.TheVariants as operator
use Rattle.truth.specs.Comparison.{Comparison, Eq, NotEq, Lt, LtEq, Gt, GtEq}
use Rattle.truth.specs.AExpr.{AExpr, Column, Literal, Null, BinaryExpr, Not, IsNull, IsNotNull, IsBetween}
use Rattle.truth.specs.AExpr.{ListLiteral}
use Rattle.truth.specs.AExpr.{IsIn, Missing}
use Rattle.truth.specs.AExpr.{BinaryOp, Compare, EqValidity, NotEqValidity, FloorDivide, Modulus, And, Or, Xor, LogicalAnd}
use Rattle.truth.specs.AExpr.{LogicalOr}
use Rattle.constraints.specs.declared.column.Nullability.{Nullability}
use Rattle.constraints.specs.declared.column.Nullability.TheVariants.{NonNull}
use Rattle.constraints.specs.declared.column.Nullability.TheVariants as required
use Rattle.constraints.specs.Column.{Constraint, Lower, Upper, Exclude, Allow, Disallow, Require}
use Rattle.merge.specs.Minterms.{minterms}

-- What a conjunct is to the merging. Nodes are record numbers.
pub data Conjunct (Val : Type 0) : Type 0 where
  -- column, constraints: it is written anew from the merged constraints, so the node is dropped
  Bounds : ℕ → List (Constraint Val) → Conjunct Val
  -- column, constraints: the same of a negated comparison, whose node is dropped even where nothing tightened
  Normalized : ℕ → List (Constraint Val) → Conjunct Val
  -- left column, right column, node: an edge
  Equality : ℕ → ℕ → ℕ → Conjunct Val
  -- whether reading stops if the column became impossible; node, column, constraints: kept, but the column learns of
  -- it
  Recorded : Bool → ℕ → ℕ → List (Constraint Val) → Conjunct Val
  -- node, left column, right column: another comparison of two columns, which are then not null
  NonNullPair : ℕ → ℕ → ℕ → Conjunct Val
  -- node
  Opaque : ℕ → Conjunct Val

-- ---- An operand: a column, a literal that is not null, a list that holds no null and at most 100 values (duplicates
-- count), anything else.
pub data Operand (Val : Type 0) : Type 0 where
  AColumn : ℕ → Operand Val
  ALiteral : Val → Operand Val
  AList : List Val → Operand Val
  Other : Operand Val

abbrev pub operand : {Val : Type 0} → AExpr Val → Operand Val
operand (Column c) = AColumn c
operand (Literal v) = ALiteral v
operand Null = Other
operand (BinaryExpr op left right) = Other
operand (Not a) = Other
operand (IsNull a) = Other
operand (IsNotNull a) = Other
operand (IsBetween low_closed high_closed a low high) = Other
operand (ListLiteral holds_null values) = cond (not holds_null && leb (length values) 100) (AList values) Other
operand (IsIn nulls_equal a list) = Other
operand Missing = Other

-- ---- `classify_comparison`.
abbrev pub comparison_operator : Comparison → Operator
comparison_operator Eq = operator.Eq
comparison_operator NotEq = operator.NotEq
comparison_operator Lt = operator.Lt
comparison_operator LtEq = operator.LtEq
comparison_operator Gt = operator.Gt
comparison_operator GtEq = operator.GtEq

abbrev pub operator_of : BinaryOp → Operator
operator_of (Compare o) = comparison_operator o
operator_of EqValidity = operator.EqValidity
operator_of NotEqValidity = operator.NotEqValidity
operator_of FloorDivide = operator.FloorDivide
operator_of Modulus = operator.Modulus
operator_of And = operator.And
operator_of Or = operator.Or
operator_of Xor = operator.Xor
operator_of LogicalAnd = operator.LogicalAnd
operator_of LogicalOr = operator.LogicalOr

-- The ordinary comparison that an operator is, if it is one of the six.
abbrev pub ordinary_comparison : Operator → Option Comparison
ordinary_comparison operator.Eq = some Eq
ordinary_comparison operator.EqValidity = none
ordinary_comparison operator.NotEq = some NotEq
ordinary_comparison operator.NotEqValidity = none
ordinary_comparison operator.Lt = some Lt
ordinary_comparison operator.LtEq = some LtEq
ordinary_comparison operator.Gt = some Gt
ordinary_comparison operator.GtEq = some GtEq
ordinary_comparison operator.Plus = none
ordinary_comparison operator.Minus = none
ordinary_comparison operator.Multiply = none
ordinary_comparison operator.RustDivide = none
ordinary_comparison operator.TrueDivide = none
ordinary_comparison operator.FloorDivide = none
ordinary_comparison operator.Modulus = none
ordinary_comparison operator.And = none
ordinary_comparison operator.Or = none
ordinary_comparison operator.Xor = none
ordinary_comparison operator.LogicalAnd = none
ordinary_comparison operator.LogicalOr = none

-- `col op lit` as bounds and excluded values; `==` is a lower and an upper bound, both inclusive.
abbrev pub comparison_constraints : {Val : Type 0} → Comparison → Val → List (Constraint Val)
comparison_constraints Eq v = Lower true v ∷ (Upper true v ∷ [])
comparison_constraints NotEq v = Exclude v ∷ []
comparison_constraints Lt v = Upper false v ∷ []
comparison_constraints LtEq v = Upper true v ∷ []
comparison_constraints Gt v = Lower false v ∷ []
comparison_constraints GtEq v = Lower true v ∷ []

-- A column and a literal: the column enters the table whatever the operator; all but the six comparisons stay opaque.
abbrev pub classify_column_literal : {Val : Type 0} → ℕ → ℕ → Val → Option Comparison → Conjunct Val
classify_column_literal n c v (some o) = Bounds c (comparison_constraints o v)
classify_column_literal n c v none = Recorded false n c []

-- `lit op col` is read as `col op' lit`, with the operator of `swap_operands` where there is one.
abbrev pub classify_literal_column : {Val : Type 0} → ℕ → ℕ → Val → code.Option Operator → Conjunct Val
classify_literal_column n c v code.None = Opaque n
classify_literal_column n c v (code.Some o) = classify_column_literal n c v (ordinary_comparison o)

-- Two columns: only the comparisons that propagate nulls say something, and enter the columns.
abbrev pub classify_column_column : {Val : Type 0} → ℕ → ℕ → ℕ → Operator → Conjunct Val
classify_column_column n a b o =
    cond (is_null_propagating_comparison o)
    (cond (eqb (code_of o) (code_of operator.Eq)) (Equality a b n) (NonNullPair n a b)) (Opaque n)

abbrev pub classify_comparison : {Val : Type 0} → ℕ → Operator → Operand Val → Operand Val → Conjunct Val
classify_comparison n o (AColumn a) (AColumn b) = classify_column_column n a b o
classify_comparison n o (AColumn c) (ALiteral v) = classify_column_literal n c v (ordinary_comparison o)
classify_comparison n o (AColumn c) (AList values) = Opaque n
classify_comparison n o (AColumn c) Other = Opaque n
classify_comparison n o (ALiteral v) (AColumn c) = classify_literal_column n c v (swap_operands o)
classify_comparison n o (ALiteral v) (ALiteral w) = Opaque n
classify_comparison n o (ALiteral v) (AList values) = Opaque n
classify_comparison n o (ALiteral v) Other = Opaque n
classify_comparison n o (AList values) right = Opaque n
classify_comparison n o Other right = Opaque n

-- ---- `classify_negation` of a comparison: that of the complementary operator, where it has one. Bounds so read force
-- the rebuild; an edge, or a conjunct that stays, is what it is without Not.
abbrev pub normalized : {Val : Type 0} → Conjunct Val → Conjunct Val
normalized (Bounds c l) = Normalized c l
normalized (Normalized c l) = Normalized c l
normalized (Equality a b n) = Equality a b n
normalized (Recorded stops n c l) = Recorded stops n c l
normalized (NonNullPair n a b) = NonNullPair n a b
normalized (Opaque n) = Opaque n

abbrev pub classify_negated : {Val : Type 0} → ℕ → code.Option Operator → Operand Val → Operand Val → Conjunct Val
classify_negated n code.None left right = Opaque n
classify_negated n (code.Some o) left right = normalized (classify_comparison n o left right)

-- ---- `classify_is_between`: a lower and an upper bound, inclusive or not.
abbrev pub classify_is_between : {Val : Type 0} → ℕ → Bool → Bool → Operand Val → Operand Val → Operand Val →
    Conjunct Val
classify_is_between n lo hi (AColumn c) (ALiteral v) (ALiteral w) = Bounds c (Lower lo v ∷ Upper hi w ∷ [])
classify_is_between n lo hi (AColumn c) (ALiteral v) (AColumn d) = Opaque n
classify_is_between n lo hi (AColumn c) (ALiteral v) (AList values) = Opaque n
classify_is_between n lo hi (AColumn c) (ALiteral v) Other = Opaque n
classify_is_between n lo hi (AColumn c) (AColumn d) high = Opaque n
classify_is_between n lo hi (AColumn c) (AList values) high = Opaque n
classify_is_between n lo hi (AColumn c) Other high = Opaque n
classify_is_between n lo hi (ALiteral v) low high = Opaque n
classify_is_between n lo hi (AList values) low high = Opaque n
classify_is_between n lo hi Other low high = Opaque n

-- ---- is_in, or Not of it; `says` is what the list says of the column. The node stays.
abbrev pub classify_is_in : {Val : Type 0} → ℕ → (List Val → Constraint Val) → Operand Val → Operand Val → Conjunct Val
classify_is_in n says (AColumn c) (AList values) = Recorded false n c (says values ∷ [])
classify_is_in n says (AColumn c) (AColumn d) = Opaque n
classify_is_in n says (AColumn c) (ALiteral v) = Opaque n
classify_is_in n says (AColumn c) Other = Opaque n
classify_is_in n says (ALiteral v) list = Opaque n
classify_is_in n says (AList values) list = Opaque n
classify_is_in n says Other list = Opaque n

-- ---- `classify_null`: the node stays, and reading stops if the column became impossible.
abbrev pub classify_null : {Val : Type 0} → ℕ → Nullability → Operand Val → Conjunct Val
classify_null n must (AColumn c) = Recorded true n c (Require must ∷ [])
classify_null n must (ALiteral v) = Opaque n
classify_null n must (AList values) = Opaque n
classify_null n must Other = Opaque n

module _ {Val : Type 0} (R : ℕ → AExpr Val) where
  -- `classify_negation`. A negated is_in with nulls_equal adds its values but does not count as a value constraint.
  abbrev pub classify_negation : ℕ → AExpr Val → Conjunct Val
  classify_negation n (Column c) = Opaque n
  classify_negation n (Literal v) = Opaque n
  classify_negation n Null = Opaque n
  classify_negation n (BinaryExpr op left right) =
      classify_negated n (negate (operator_of op)) (operand (R left)) (operand (R right))
  classify_negation n (Not a) = Opaque n
  classify_negation n (IsNull a) = classify_null n NonNull (operand (R a))
  classify_negation n (IsNotNull a) = classify_null n required.Null (operand (R a))
  classify_negation n (IsBetween low_closed high_closed a low high) = Opaque n
  classify_negation n (ListLiteral holds_null values) = Opaque n
  classify_negation n (IsIn nulls_equal a list) =
      classify_is_in n (λ values. Disallow (not nulls_equal) values) (operand (R a)) (operand (R list))
  classify_negation n Missing = Opaque n

  abbrev pub classify_record : ℕ → AExpr Val → Conjunct Val
  classify_record n (Column c) = Opaque n
  classify_record n (Literal v) = Opaque n
  classify_record n Null = Opaque n
  classify_record n (BinaryExpr op left right) =
      classify_comparison n (operator_of op) (operand (R left)) (operand (R right))
  classify_record n (Not a) = classify_negation n (R a)
  classify_record n (IsNull a) = classify_null n required.Null (operand (R a))
  classify_record n (IsNotNull a) = classify_null n NonNull (operand (R a))
  classify_record n (IsBetween low_closed high_closed a low high) =
      classify_is_between n low_closed high_closed (operand (R a)) (operand (R low)) (operand (R high))
  classify_record n (ListLiteral holds_null values) = Opaque n
  classify_record n (IsIn nulls_equal a list) = classify_is_in n Allow (operand (R a)) (operand (R list))
  classify_record n Missing = Opaque n

  -- `classify_into_constraints`, of node n.
  abbrev pub classify : ℕ → Conjunct Val
  classify n = classify_record n (R n)

  -- What is read of the screen's conjuncts, in their order.
  abbrev pub read_conjuncts : ℕ → List (Conjunct Val)
  read_conjuncts root = map classify (minterms R root)
