-- Plain screens (01, Records): they read only Int and Day columns, and each conjunct is one of those listed. Only for
-- them is "nothing passes" promised whenever no row passes.
use Rattle.std.specs.Prelude.{Bool, true, false, not, ◌&&◌, ◌||◌, List, [], ◌∷◌, ℕ, leb, eqb, length, get_or}
use Rattle.records.specs.Bytes.{all}
use Rattle.records.specs.Course.{course}
use Rattle.truth.specs.Comparison.{Comparison, Eq, NotEq, Lt, LtEq, Gt, GtEq}
use Rattle.truth.specs.AExpr.{AExpr, Column, Literal, Null, BinaryExpr, Not, IsNull, IsNotNull, IsBetween}
use Rattle.truth.specs.AExpr.{ListLiteral}
use Rattle.truth.specs.AExpr.{IsIn, Missing}
use Rattle.truth.specs.AExpr.{BinaryOp, Compare, EqValidity, NotEqValidity, FloorDivide, Modulus, And, Or, Xor, LogicalAnd}
use Rattle.truth.specs.AExpr.{LogicalOr}
use Rattle.merge.specs.Minterms.{minterms}

abbrev pub is_column : {Val : Type 0} → AExpr Val → Bool
is_column (Column c) = true
is_column (Literal v) = false
is_column Null = false
is_column (BinaryExpr op left right) = false
is_column (Not a) = false
is_column (IsNull a) = false
is_column (IsNotNull a) = false
is_column (IsBetween low_closed high_closed a low high) = false
is_column (ListLiteral holds_null values) = false
is_column (IsIn nulls_equal a list) = false
is_column Missing = false

-- A null is a record of its own, so a literal is never null.
abbrev pub is_literal : {Val : Type 0} → AExpr Val → Bool
is_literal (Column c) = false
is_literal (Literal v) = true
is_literal Null = false
is_literal (BinaryExpr op left right) = false
is_literal (Not a) = false
is_literal (IsNull a) = false
is_literal (IsNotNull a) = false
is_literal (IsBetween low_closed high_closed a low high) = false
is_literal (ListLiteral holds_null values) = false
is_literal (IsIn nulls_equal a list) = false
is_literal Missing = false

-- "a list of code 0 and at most 100 values"
abbrev pub is_short_list : {Val : Type 0} → AExpr Val → Bool
is_short_list (Column c) = false
is_short_list (Literal v) = false
is_short_list Null = false
is_short_list (BinaryExpr op left right) = false
is_short_list (Not a) = false
is_short_list (IsNull a) = false
is_short_list (IsNotNull a) = false
is_short_list (IsBetween low_closed high_closed a low high) = false
is_short_list (ListLiteral holds_null values) = not holds_null && leb (length values) 100
is_short_list (IsIn nulls_equal a list) = false
is_short_list Missing = false

abbrev pub is_eq : Comparison → Bool
is_eq Eq = true
is_eq NotEq = false
is_eq Lt = false
is_eq LtEq = false
is_eq Gt = false
is_eq GtEq = false

-- "a column against a non-null literal (..), either way round"
abbrev pub beside_literal : {Val : Type 0} → AExpr Val → AExpr Val → Bool
beside_literal x y = (is_column x && is_literal y) || (is_literal x && is_column y)

-- Of these "under one of the six ordinary comparisons" (02, 2.1: "the Not of each").
abbrev pub plain_compared : {Val : Type 0} → BinaryOp → AExpr Val → AExpr Val → Bool
plain_compared (Compare c) x y = beside_literal x y
plain_compared EqValidity x y = false
plain_compared NotEqValidity x y = false
plain_compared FloorDivide x y = false
plain_compared Modulus x y = false
plain_compared And x y = false
plain_compared Or x y = false
plain_compared Xor x y = false
plain_compared LogicalAnd x y = false
plain_compared LogicalOr x y = false

-- The same and "column Eq column".
abbrev pub plain_binary : {Val : Type 0} → BinaryOp → AExpr Val → AExpr Val → Bool
plain_binary (Compare c) x y = beside_literal x y || (is_eq c && (is_column x && is_column y))
plain_binary EqValidity x y = false
plain_binary NotEqValidity x y = false
plain_binary FloorDivide x y = false
plain_binary Modulus x y = false
plain_binary And x y = false
plain_binary Or x y = false
plain_binary Xor x y = false
plain_binary LogicalAnd x y = false
plain_binary LogicalOr x y = false

module _ {Val : Type 0} (R : ℕ → AExpr Val) where
  -- Not of a comparison with a literal; "is_in of a column over a list (..), and Not of it; is_null, is_not_null and
  -- Not of either, on a column"
  abbrev pub plain_negation : AExpr Val → Bool
  plain_negation (Column c) = false
  plain_negation (Literal v) = false
  plain_negation Null = false
  plain_negation (BinaryExpr op left right) = plain_compared op (R left) (R right)
  plain_negation (Not a) = false
  plain_negation (IsNull a) = is_column (R a)
  plain_negation (IsNotNull a) = is_column (R a)
  plain_negation (IsBetween low_closed high_closed a low high) = false
  plain_negation (ListLiteral holds_null values) = false
  plain_negation (IsIn nulls_equal a list) = is_column (R a) && is_short_list (R list)
  plain_negation Missing = false

  -- The same without Not, the comparisons, and "is_between of a column and two non-null literals".
  abbrev pub plain_record : AExpr Val → Bool
  plain_record (Column c) = false
  plain_record (Literal v) = false
  plain_record Null = false
  plain_record (BinaryExpr op left right) = plain_binary op (R left) (R right)
  plain_record (Not a) = plain_negation (R a)
  plain_record (IsNull a) = is_column (R a)
  plain_record (IsNotNull a) = is_column (R a)
  plain_record (IsBetween low_closed high_closed a low high) =
      is_column (R a) && (is_literal (R low) && is_literal (R high))
  plain_record (ListLiteral holds_null values) = false
  plain_record (IsIn nulls_equal a list) = is_column (R a) && is_short_list (R list)
  plain_record Missing = false

  abbrev pub plain_conjunct : ℕ → Bool
  plain_conjunct n = plain_record (R n)

  abbrev pub plain_conjuncts : List ℕ → Bool
  plain_conjuncts [] = true
  plain_conjuncts (n ∷ nodes) = plain_conjunct n && plain_conjuncts nodes

-- ---- Whether node n reads column c.
abbrev pub reads_step : {Val : Type 0} → ℕ → (ℕ → Bool) → AExpr Val → Bool
reads_step c below (Column d) = eqb c d
reads_step c below (Literal v) = false
reads_step c below Null = false
reads_step c below (BinaryExpr op left right) = below left || below right
reads_step c below (Not a) = below a
reads_step c below (IsNull a) = below a
reads_step c below (IsNotNull a) = below a
reads_step c below (IsBetween low_closed high_closed a low high) = below a || (below low || below high)
reads_step c below (ListLiteral holds_null values) = false
reads_step c below (IsIn nulls_equal a list) = below a || below list
reads_step c below Missing = false

abbrev pub reads_column : {Val : Type 0} → (ℕ → AExpr Val) → ℕ → ℕ → Bool
reads_column R n c = course (λ a. false) (λ below i. reads_step c below (R i)) n

-- ---- Whether node n reaches a division, FloorDivide or Modulus.
abbrev pub divides : BinaryOp → Bool
divides (Compare c) = false
divides EqValidity = false
divides NotEqValidity = false
divides FloorDivide = true
divides Modulus = true
divides And = false
divides Or = false
divides Xor = false
divides LogicalAnd = false
divides LogicalOr = false

abbrev pub division_step : {Val : Type 0} → (ℕ → Bool) → AExpr Val → Bool
division_step below (Column c) = false
division_step below (Literal v) = false
division_step below Null = false
division_step below (BinaryExpr op left right) = divides op || (below left || below right)
division_step below (Not a) = below a
division_step below (IsNull a) = below a
division_step below (IsNotNull a) = below a
division_step below (IsBetween low_closed high_closed a low high) = below a || (below low || below high)
division_step below (ListLiteral holds_null values) = false
division_step below (IsIn nulls_equal a list) = below a || below list
division_step below Missing = false

abbrev pub reaches_division : {Val : Type 0} → (ℕ → AExpr Val) → ℕ → Bool
reaches_division R n = course (λ a. false) (λ below i. division_step below (R i)) n

-- ---- "A plain screen reads only Int and Day columns". t is the column table.
abbrev pub is_number_column : List ℕ → ℕ → Bool
is_number_column t c = eqb (get_or t c 0) 1 || eqb (get_or t c 0) 2

abbrev pub reads_only_numbers : {Val : Type 0} → List ℕ → (ℕ → AExpr Val) → ℕ → Bool
reads_only_numbers t R root = all (λ c. not (reads_column R root c) || is_number_column t c) (length t)

-- A plain screen: what it reads, and its conjuncts.
abbrev pub plain_screen : {Val : Type 0} → List ℕ → (ℕ → AExpr Val) → ℕ → Bool
plain_screen t R root = reads_only_numbers t R root && plain_conjuncts R (minterms R root)
