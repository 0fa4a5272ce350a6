-- Records as expressions: inputs are node numbers, list values stand in the list itself. Val is what a literal holds.
use Rattle.std.specs.Prelude.{Bool, List, map, ℕ, ◌<◌}
use Rattle.truth.specs.Comparison.{Comparison}

pub data BinaryOp : Type 0 where
  Compare : Comparison → BinaryOp
  EqValidity NotEqValidity FloorDivide Modulus And Or Xor LogicalAnd LogicalOr : BinaryOp

pub data AExpr (Val : Type 0) : Type 0 where
  -- a column number
  Column : ℕ → AExpr Val
  Literal : Val → AExpr Val
  Null : AExpr Val
  -- operator, left, right
  BinaryExpr : BinaryOp → ℕ → ℕ → AExpr Val
  Not : ℕ → AExpr Val
  IsNull : ℕ → AExpr Val
  IsNotNull : ℕ → AExpr Val
  -- whether the low end is closed, whether the high end is; value, low, high
  IsBetween : Bool → Bool → ℕ → ℕ → ℕ → AExpr Val
  -- whether it also holds a null; its values
  ListLiteral : Bool → List Val → AExpr Val
  -- nulls_equal; value, list
  IsIn : Bool → ℕ → ℕ → AExpr Val
  -- what stands where there is no record
  Missing : AExpr Val

-- Every input of the record is below n.
abbrev pub Inputs : {Val : Type 0} → ℕ → AExpr Val → Type 0
Inputs n (Column c) = Unit {0}
Inputs n (Literal v) = Unit {0}
Inputs n Null = Unit {0}
Inputs n (BinaryExpr op left right) = (left < n) × (right < n)
Inputs n (Not a) = a < n
Inputs n (IsNull a) = a < n
Inputs n (IsNotNull a) = a < n
Inputs n (IsBetween low_closed high_closed a low high) = (a < n) × (low < n) × (high < n)
Inputs n (ListLiteral holds_null values) = Unit {0}
Inputs n (IsIn nulls_equal a list) = (a < n) × (list < n)
Inputs n Missing = Unit {0}

-- Every record's inputs are below it.
abbrev pub WF : {Val : Type 0} → (ℕ → AExpr Val) → Type 0
WF R = (n : ℕ) → Inputs n (R n)

-- An expression with each of its values taken to another one.
abbrev pub map_aexpr : {A B : Type 0} → (A → B) → AExpr A → AExpr B
map_aexpr f (Column c) = Column c
map_aexpr f (Literal v) = Literal (f v)
map_aexpr f Null = Null
map_aexpr f (BinaryExpr op left right) = BinaryExpr op left right
map_aexpr f (Not a) = Not a
map_aexpr f (IsNull a) = IsNull a
map_aexpr f (IsNotNull a) = IsNotNull a
map_aexpr f (IsBetween low_closed high_closed a low high) = IsBetween low_closed high_closed a low high
map_aexpr f (ListLiteral holds_null values) = ListLiteral holds_null (map f values)
map_aexpr f (IsIn nulls_equal a list) = IsIn nulls_equal a list
map_aexpr f Missing = Missing
