-- The screen and the row that a host sends, as expressions and a row of keys: document 01, 'Records'.
-- rs are the records, p the pool. A value is 64 bits in two's complement; its key counts halves (Halves).
use Rattle.std.specs.Prelude.{Bool, true, false, cond, List, [], ◌∷◌, ℕ, zero, suc, ◌/◌, ◌%◌, ◌^◌, ltb, eqb, ℤ}
use Rattle.std.proofs.Math.Option.{Option, none, some}
use Rattle.std.proofs.Common.{arith}
use Rattle.records.specs.Bytes as bytes
use Rattle.records.specs.Record.{record_at, node}
use Rattle.records.specs.declared.operator.Operator.{Operator}
use Rattle.records.specs.declared.operator.Operator.TheVariants as operator
use Rattle.records.specs.declared.record.ClosedInterval.{ClosedInterval}
use Rattle.records.specs.declared.record.ClosedInterval.TheVariants as closed
use Rattle.records.specs.declared.record.Record.{Record}
use Rattle.records.specs.declared.record.Record.TheVariants as kind
use Rattle.three_valued.specs.declared.logic.Truth.{Truth}
use Rattle.truth.specs.Halves.{ord_z, key, floor_divide_keys, modulus_keys}
use Rattle.truth.specs.Comparison.{Eq, NotEq, Lt, LtEq, Gt, GtEq}
use Rattle.truth.specs.AExpr.{AExpr, Column, Literal, Null, BinaryExpr, Not, IsNull, IsNotNull, IsBetween}
use Rattle.truth.specs.AExpr.{ListLiteral, IsIn, Missing}
use Rattle.truth.specs.AExpr.{Compare, EqValidity, NotEqValidity, FloorDivide, Modulus, And, Or, Xor}
use Rattle.truth.specs.AExpr.{LogicalAnd, LogicalOr}
use Rattle.truth.specs.Cell.{TruthKeys, cell_at, truth_at}

-- Arithmetic but the two divisions, which checking refuses, is no expression here.
abbrev pub binary_expr : Operator → ℕ → ℕ → AExpr ℕ
binary_expr operator.Eq x y = BinaryExpr (Compare Eq) x y
binary_expr operator.EqValidity x y = BinaryExpr EqValidity x y
binary_expr operator.NotEq x y = BinaryExpr (Compare NotEq) x y
binary_expr operator.NotEqValidity x y = BinaryExpr NotEqValidity x y
binary_expr operator.Lt x y = BinaryExpr (Compare Lt) x y
binary_expr operator.LtEq x y = BinaryExpr (Compare LtEq) x y
binary_expr operator.Gt x y = BinaryExpr (Compare Gt) x y
binary_expr operator.GtEq x y = BinaryExpr (Compare GtEq) x y
binary_expr operator.Plus x y = Missing
binary_expr operator.Minus x y = Missing
binary_expr operator.Multiply x y = Missing
binary_expr operator.RustDivide x y = Missing
binary_expr operator.TrueDivide x y = Missing
binary_expr operator.FloorDivide x y = BinaryExpr FloorDivide x y
binary_expr operator.Modulus x y = BinaryExpr Modulus x y
binary_expr operator.And x y = BinaryExpr And x y
binary_expr operator.Or x y = BinaryExpr Or x y
binary_expr operator.Xor x y = BinaryExpr Xor x y
binary_expr operator.LogicalAnd x y = BinaryExpr LogicalAnd x y
binary_expr operator.LogicalOr x y = BinaryExpr LogicalOr x y

-- Left closes the low end only, Right the high end only.
abbrev pub closes_low : ClosedInterval → Bool
closes_low closed.Both = true
closes_low closed.Left = true
closes_low closed.Right = false
closes_low closed.None = false

abbrev pub closes_high : ClosedInterval → Bool
closes_high closed.Both = true
closes_high closed.Left = false
closes_high closed.Right = true
closes_high closed.None = false

-- Count values of the pool, from the one numbered start on.
unfoldable pub values_from : List ℕ → ℕ → ℕ → List ℕ
values_from p start zero = []
values_from p start (suc count) = bytes.value_at p start ∷ values_from p (suc start) count

-- What a record says. The types serve checking alone.
abbrev pub to_aexpr : List ℕ → Record → AExpr ℕ
to_aexpr p kind.Invalid = Missing
to_aexpr p (kind.Column c) = Column c.0
to_aexpr p (kind.Literal ty v) = Literal v
to_aexpr p (kind.Null ty) = Null
to_aexpr p (kind.Binary o x y) = binary_expr o x.0 y.0
to_aexpr p (kind.Not x) = Not x.0
to_aexpr p (kind.IsNull x) = IsNull x.0
to_aexpr p (kind.IsNotNull x) = IsNotNull x.0
to_aexpr p (kind.IsBetween ends x low high) = IsBetween (closes_low ends) (closes_high ends) x.0 low.0 high.0
to_aexpr p (kind.List ty holds_null start count) = ListLiteral holds_null (values_from p start count)
to_aexpr p (kind.IsIn nulls_equal x list) = IsIn nulls_equal x.0 list.0

-- Record n of the lent bytes, used or not.
unfoldable pub aexpr_of : List ℕ → List ℕ → ℕ → AExpr ℕ
aexpr_of rs p n = to_aexpr p (record_at rs (node n))

-- The records used; there is none at and past `used`.
unfoldable pub aexpr_at : List ℕ → List ℕ → ℕ → ℕ → AExpr ℕ
aexpr_at rs p used n = cond (ltb n used) (aexpr_of rs p n) Missing

-- Bit c of the null marks.
abbrev pub null_marked : ℕ → ℕ → Bool
null_marked nulls c = eqb (nulls / 2 ^ c % 2) 1

-- The keys of a row of eight bytes a column, and its null marks.
unfoldable pub row_keys : List ℕ → ℕ → ℕ → Option ℤ
row_keys row nulls c = cond (null_marked nulls c) none (some (key (bytes.value_at row c)))

-- A Truth is 0 or 1.
abbrev pub truth_keys : TruthKeys ord_z
truth_keys =
    record {
      false_key = key 0;
      true_key = key 1;
      below = omega arith;
      floor_divide = floor_divide_keys;
      modulus = modulus_keys;
    }

-- What a row of keys makes of record n, of expressions whose values are 64 bits.
abbrev pub truth_in : (ℕ → AExpr ℕ) → (ℕ → Option ℤ) → ℕ → Truth
truth_in R row n = truth_at key ord_z truth_keys R row n

abbrev pub value_in : (ℕ → AExpr ℕ) → (ℕ → Option ℤ) → ℕ → Option ℤ
value_in R row n = (cell_at key ord_z truth_keys R row n).value
