-- Plain conjuncts by the forms of their operands, as the readers see them; the same as the definition of plain
-- screens.
use mathlib.Core.Path.{◌≡◌, refl, sym, ◌∙◌, ap}
use mathlib.Core.Bool.{Bool, true, false, not, ◌&&◌, ◌||◌, and-true, and-false, cond}
use mathlib.Core.List.{List, [], ◌∷◌}
use Prim.Native.Nat.{ℕ}
use lib.Dec.{leb}
use lib.ListN.{length}
use Rattle.truth.specs.Comparison.{Comparison, Eq, NotEq, Lt, LtEq, Gt, GtEq}
use Rattle.truth.specs.AExpr.{AExpr, Column, Literal, Null, BinaryExpr, Not, IsNull, IsNotNull, IsBetween}
use Rattle.truth.specs.AExpr.{ListLiteral}
use Rattle.truth.specs.AExpr.{IsIn, Missing}
use Rattle.truth.specs.AExpr.{BinaryOp, Compare, EqValidity, NotEqValidity, And, Or, Xor, LogicalAnd, LogicalOr}
use Rattle.truth.specs.AExpr.{FloorDivide, Modulus}
use Rattle.merge.specs.Classify.{Operand, AColumn, ALiteral, AList, Other, operand}
use Rattle.merge.specs.Plain as plain

abbrev pub is_column : {Val : Type 0} → Operand Val → Bool
is_column (AColumn c) = true
is_column (ALiteral v) = false
is_column (AList values) = false
is_column Other = false

abbrev pub is_literal : {Val : Type 0} → Operand Val → Bool
is_literal (AColumn c) = false
is_literal (ALiteral v) = true
is_literal (AList values) = false
is_literal Other = false

abbrev pub is_short_list : {Val : Type 0} → Operand Val → Bool
is_short_list (AColumn c) = false
is_short_list (ALiteral v) = false
is_short_list (AList values) = true
is_short_list Other = false

abbrev pub plain_columns : Comparison → Bool
plain_columns Eq = true
plain_columns NotEq = false
plain_columns Lt = false
plain_columns LtEq = false
plain_columns Gt = false
plain_columns GtEq = false

abbrev pub plain_comparison : {Val : Type 0} → Comparison → Operand Val → Operand Val → Bool
plain_comparison c (AColumn a) (AColumn b) = plain_columns c
plain_comparison c (AColumn a) (ALiteral v) = true
plain_comparison c (AColumn a) (AList values) = false
plain_comparison c (AColumn a) Other = false
plain_comparison c (ALiteral v) (AColumn a) = true
plain_comparison c (ALiteral v) (ALiteral w) = false
plain_comparison c (ALiteral v) (AList values) = false
plain_comparison c (ALiteral v) Other = false
plain_comparison c (AList values) right = false
plain_comparison c Other right = false

abbrev pub beside_literal : {Val : Type 0} → Operand Val → Operand Val → Bool
beside_literal (AColumn a) (AColumn b) = false
beside_literal (AColumn a) (ALiteral v) = true
beside_literal (AColumn a) (AList values) = false
beside_literal (AColumn a) Other = false
beside_literal (ALiteral v) (AColumn a) = true
beside_literal (ALiteral v) (ALiteral w) = false
beside_literal (ALiteral v) (AList values) = false
beside_literal (ALiteral v) Other = false
beside_literal (AList values) right = false
beside_literal Other right = false

abbrev pub plain_compared : {Val : Type 0} → BinaryOp → Operand Val → Operand Val → Bool
plain_compared (Compare c) left right = beside_literal left right
plain_compared EqValidity left right = false
plain_compared NotEqValidity left right = false
plain_compared FloorDivide left right = false
plain_compared Modulus left right = false
plain_compared And left right = false
plain_compared Or left right = false
plain_compared Xor left right = false
plain_compared LogicalAnd left right = false
plain_compared LogicalOr left right = false

abbrev pub plain_binary : {Val : Type 0} → BinaryOp → Operand Val → Operand Val → Bool
plain_binary (Compare c) left right = plain_comparison c left right
plain_binary EqValidity left right = false
plain_binary NotEqValidity left right = false
plain_binary FloorDivide left right = false
plain_binary Modulus left right = false
plain_binary And left right = false
plain_binary Or left right = false
plain_binary Xor left right = false
plain_binary LogicalAnd left right = false
plain_binary LogicalOr left right = false

module _ {Val : Type 0} (R : ℕ → AExpr Val) where
  abbrev pub plain_negation : AExpr Val → Bool
  plain_negation (Column c) = false
  plain_negation (Literal v) = false
  plain_negation Null = false
  plain_negation (BinaryExpr op left right) = plain_compared op (operand (R left)) (operand (R right))
  plain_negation (Not a) = false
  plain_negation (IsNull a) = is_column (operand (R a))
  plain_negation (IsNotNull a) = is_column (operand (R a))
  plain_negation (IsBetween low_closed high_closed a low high) = false
  plain_negation (ListLiteral holds_null values) = false
  plain_negation (IsIn nulls_equal a list) = is_column (operand (R a)) && is_short_list (operand (R list))
  plain_negation Missing = false

  abbrev pub plain_record : AExpr Val → Bool
  plain_record (Column c) = false
  plain_record (Literal v) = false
  plain_record Null = false
  plain_record (BinaryExpr op left right) = plain_binary op (operand (R left)) (operand (R right))
  plain_record (Not a) = plain_negation (R a)
  plain_record (IsNull a) = is_column (operand (R a))
  plain_record (IsNotNull a) = is_column (operand (R a))
  plain_record (IsBetween low_closed high_closed a low high) =
      is_column (operand (R a)) && (is_literal (operand (R low)) && is_literal (operand (R high)))
  plain_record (ListLiteral holds_null values) = false
  plain_record (IsIn nulls_equal a list) = is_column (operand (R a)) && is_short_list (operand (R list))
  plain_record Missing = false

  abbrev pub plain_conjunct : ℕ → Bool
  plain_conjunct n = plain_record (R n)

  abbrev pub plain_conjuncts : List ℕ → Bool
  plain_conjuncts [] = true
  plain_conjuncts (n ∷ nodes) = plain_conjunct n && plain_conjuncts nodes

-- ---- The same as the definition.
column-same : {Val : Type 0} (r : AExpr Val) → plain.is_column r ≡ is_column (operand r)
column-same (Column c) = refl
column-same (Literal v) = refl
column-same Null = refl
column-same (BinaryExpr op left right) = refl
column-same (Not a) = refl
column-same (IsNull a) = refl
column-same (IsNotNull a) = refl
column-same (IsBetween i j a low high) = refl
column-same (ListLiteral h l) = go h (leb (length l) 100)
  where
    go : (h b : Bool) → false ≡ is_column (cond (not h && b) (AList l) Other)
    go true b = refl
    go false true = refl
    go false false = refl
column-same (IsIn e a list) = refl
column-same Missing = refl

literal-same : {Val : Type 0} (r : AExpr Val) → plain.is_literal r ≡ is_literal (operand r)
literal-same (Column c) = refl
literal-same (Literal v) = refl
literal-same Null = refl
literal-same (BinaryExpr op left right) = refl
literal-same (Not a) = refl
literal-same (IsNull a) = refl
literal-same (IsNotNull a) = refl
literal-same (IsBetween i j a low high) = refl
literal-same (ListLiteral h l) = go h (leb (length l) 100)
  where
    go : (h b : Bool) → false ≡ is_literal (cond (not h && b) (AList l) Other)
    go true b = refl
    go false true = refl
    go false false = refl
literal-same (IsIn e a list) = refl
literal-same Missing = refl

list_same : {Val : Type 0} (r : AExpr Val) → plain.is_short_list r ≡ is_short_list (operand r)
list_same (Column c) = refl
list_same (Literal v) = refl
list_same Null = refl
list_same (BinaryExpr op left right) = refl
list_same (Not a) = refl
list_same (IsNull a) = refl
list_same (IsNotNull a) = refl
list_same (IsBetween i j a low high) = refl
list_same (ListLiteral h l) = go h (leb (length l) 100)
  where
    go : (h b : Bool) → (not h && b) ≡ is_short_list (cond (not h && b) (AList l) Other)
    go true b = refl
    go false true = refl
    go false false = refl
list_same (IsIn e a list) = refl
list_same Missing = refl

eq-same : (c : Comparison) → plain.is_eq c ≡ plain_columns c
eq-same Eq = refl
eq-same NotEq = refl
eq-same Lt = refl
eq-same LtEq = refl
eq-same Gt = refl
eq-same GtEq = refl

sides_same :
    {Val : Type 0} (c : Comparison) (s t : Operand Val) →
    (((is_column s && is_literal t) || (is_literal s && is_column t)) || (plain.is_eq c && (is_column s && is_column t)))
    ≡ plain_comparison c s t
sides_same c (AColumn a) (AColumn b) = and-true (plain.is_eq c) ∙ eq-same c
sides_same c (AColumn a) (ALiteral v) = refl
sides_same c (AColumn a) (AList l) = and-false (plain.is_eq c)
sides_same c (AColumn a) Other = and-false (plain.is_eq c)
sides_same c (ALiteral v) (AColumn a) = refl
sides_same c (ALiteral v) (ALiteral w) = and-false (plain.is_eq c)
sides_same c (ALiteral v) (AList l) = and-false (plain.is_eq c)
sides_same c (ALiteral v) Other = and-false (plain.is_eq c)
sides_same c (AList l) t = and-false (plain.is_eq c)
sides_same c Other t = and-false (plain.is_eq c)

beside_same :
    {Val : Type 0} (s t : Operand Val) → ((is_column s && is_literal t) || (is_literal s && is_column t)) ≡
    beside_literal s t
beside_same (AColumn a) (AColumn b) = refl
beside_same (AColumn a) (ALiteral v) = refl
beside_same (AColumn a) (AList l) = refl
beside_same (AColumn a) Other = refl
beside_same (ALiteral v) (AColumn a) = refl
beside_same (ALiteral v) (ALiteral w) = refl
beside_same (ALiteral v) (AList l) = refl
beside_same (ALiteral v) Other = refl
beside_same (AList l) t = refl
beside_same Other t = refl

compared_same :
    {Val : Type 0} (op : BinaryOp) (x y : AExpr Val) → plain.plain_compared op x y ≡
    plain_compared op (operand x) (operand y)
compared_same (Compare c) x y =
    rw (column-same x, column-same y, literal-same x, literal-same y) (beside_same (operand x) (operand y))
compared_same EqValidity x y = refl
compared_same NotEqValidity x y = refl
compared_same FloorDivide x y = refl
compared_same Modulus x y = refl
compared_same And x y = refl
compared_same Or x y = refl
compared_same Xor x y = refl
compared_same LogicalAnd x y = refl
compared_same LogicalOr x y = refl

binary-same :
    {Val : Type 0} (op : BinaryOp) (x y : AExpr Val) → plain.plain_binary op x y ≡
    plain_binary op (operand x) (operand y)
binary-same (Compare c) x y =
    rw (column-same x, column-same y, literal-same x, literal-same y) (sides_same c (operand x) (operand y))
binary-same EqValidity x y = refl
binary-same NotEqValidity x y = refl
binary-same FloorDivide x y = refl
binary-same Modulus x y = refl
binary-same And x y = refl
binary-same Or x y = refl
binary-same Xor x y = refl
binary-same LogicalAnd x y = refl
binary-same LogicalOr x y = refl

module _ {Val : Type 0} (R : ℕ → AExpr Val) where
  member-same : (a list : ℕ) →
      (plain.is_column (R a) && plain.is_short_list (R list)) ≡
      (is_column (operand (R a)) && is_short_list (operand (R list)))
  member-same a list = rw (column-same (R a), list_same (R list))

  negation-same : (r : AExpr Val) → plain.plain_negation R r ≡ plain_negation R r
  negation-same (Column c) = refl
  negation-same (Literal v) = refl
  negation-same Null = refl
  negation-same (BinaryExpr op left right) = compared_same op (R left) (R right)
  negation-same (Not a) = refl
  negation-same (IsNull a) = column-same (R a)
  negation-same (IsNotNull a) = column-same (R a)
  negation-same (IsBetween i j a low high) = refl
  negation-same (ListLiteral h l) = refl
  negation-same (IsIn e a list) = member-same a list
  negation-same Missing = refl

  record_same : (r : AExpr Val) → plain.plain_record R r ≡ plain_record R r
  record_same (Column c) = refl
  record_same (Literal v) = refl
  record_same Null = refl
  record_same (BinaryExpr op left right) = binary-same op (R left) (R right)
  record_same (Not a) = negation-same (R a)
  record_same (IsNull a) = column-same (R a)
  record_same (IsNotNull a) = column-same (R a)
  record_same (IsBetween i j a low high) = rw (column-same (R a), literal-same (R low), literal-same (R high))
  record_same (ListLiteral h l) = refl
  record_same (IsIn e a list) = member-same a list
  record_same Missing = refl

  pub plain-same : (nodes : List ℕ) → plain.plain_conjuncts R nodes ≡ plain_conjuncts R nodes
  plain-same [] = refl
  plain-same (n ∷ nodes) = rw (record_same (R n), plain-same nodes)
