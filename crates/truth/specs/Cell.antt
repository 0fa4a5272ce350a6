-- The row test: what a row makes of each record. A row gives each column null (none) or a key.
-- Read `step`: one clause a kind of record. Each record has one cell with two faces: its truth, and its value for those
-- that compare it; a truth that is unknown is null as a value. A division is a value.
use Rattle.std.specs.Prelude.{Bool, true, false, not, List, [], ℕ}
use Rattle.std.proofs.Math.Option.{Option, none, some}
use Rattle.records.specs.Course.{course}
use Rattle.three_valued.specs.declared.logic.Truth.{Truth}
use Rattle.three_valued.specs.declared.logic.Truth.TheVariants.{False, Unknown, True}
use Rattle.truth.specs.Order.{Order, is_equal}
use Rattle.truth.specs.Comparison.{Comparison, Lt, LtEq, Gt, GtEq, comparison_holds}
use Rattle.three_valued.specs.Logic.{and3, or3, xor3, not3, of_bool}
use Rattle.truth.specs.AExpr.{AExpr, Column, Literal, Null, BinaryExpr, Not, IsNull, IsNotNull, IsBetween}
use Rattle.truth.specs.AExpr.{ListLiteral, IsIn, Missing}
use Rattle.truth.specs.AExpr.{BinaryOp, Compare, EqValidity, NotEqValidity, FloorDivide, Modulus, And, Or, Xor}
use Rattle.truth.specs.AExpr.{LogicalAnd, LogicalOr}
use Rattle.truth.specs.Membership.{in3}

-- What the row test needs of keys beside their order: those of the two values of type Truth, false below true, and the
-- two divisions, none where there is no quotient.
pub record TruthKeys {K : Type 0} (O : Order K) : Type 0 where
  pub false_key : K
  pub true_key : K
  -- false is below true
  pub below : O.less false_key true_key
  pub floor_divide : K → K → Option K
  pub modulus : K → K → Option K

-- What a record offers to those above it: its truth, its value, and, of a list, whether it holds a null and its values.
pub record Cell (K Val : Type 0) : Type 0 where
  pub truth : Truth
  pub value : Option K
  pub holds_null : Bool
  pub values : List Val

-- What stands where there is no record, and for an input that is not below its record.
abbrev pub no_cell : {K Val : Type 0} → Cell K Val
no_cell = record { truth = Unknown; value = none; holds_null = false; values = [] }

abbrev pub is_null : {K : Type 0} → Option K → Bool
is_null none = true
is_null (some k) = false

-- is_between's two comparisons, by whether that end is closed.
abbrev pub low_comparison : Bool → Comparison
low_comparison true = GtEq
low_comparison false = Gt

abbrev pub high_comparison : Bool → Comparison
high_comparison true = LtEq
high_comparison false = Lt

module _ {K Val : Type 0} (key : Val → K) (O : Order K) (tk : TruthKeys O) where
  abbrev pub value_of_truth : Truth → Option K
  value_of_truth False = some tk.false_key
  value_of_truth Unknown = none
  value_of_truth True = some tk.true_key

  abbrev pub truth_of_value : Option K → Truth
  truth_of_value none = Unknown
  truth_of_value (some k) = of_bool (is_equal (O.cmp k tk.true_key))

  -- A comparison with null is unknown.
  abbrev pub compare3 : Comparison → Option K → Option K → Truth
  compare3 c none y = Unknown
  compare3 c (some a) none = Unknown
  compare3 c (some a) (some b) = of_bool (comparison_holds c (O.cmp a b))

  -- EqValidity takes null as a value.
  abbrev pub same_value : Option K → Option K → Bool
  same_value none none = true
  same_value none (some b) = false
  same_value (some a) none = false
  same_value (some a) (some b) = is_equal (O.cmp a b)

  -- is_between: the And of its two comparisons.
  abbrev pub between3 : Bool → Bool → Option K → Option K → Option K → Truth
  between3 low_closed high_closed x low high =
      and3 (compare3 (low_comparison low_closed) x low) (compare3 (high_comparison high_closed) x high)

  -- A null on either side gives null.
  abbrev pub divided : (K → K → Option K) → Option K → Option K → Option K
  divided f none y = none
  divided f (some a) none = none
  divided f (some a) (some b) = f a b

  abbrev pub truth_cell : Truth → Cell K Val
  truth_cell t = record { truth = t; value = value_of_truth t; holds_null = false; values = [] }

  abbrev pub value_cell : Option K → Cell K Val
  value_cell x = record { truth = truth_of_value x; value = x; holds_null = false; values = [] }

  abbrev pub binary_cell : BinaryOp → Cell K Val → Cell K Val → Cell K Val
  binary_cell (Compare c) x y = truth_cell (compare3 c x.value y.value)
  binary_cell EqValidity x y = truth_cell (of_bool (same_value x.value y.value))
  binary_cell NotEqValidity x y = truth_cell (of_bool (not (same_value x.value y.value)))
  binary_cell FloorDivide x y = value_cell (divided tk.floor_divide x.value y.value)
  binary_cell Modulus x y = value_cell (divided tk.modulus x.value y.value)
  binary_cell And x y = truth_cell (and3 x.truth y.truth)
  binary_cell Or x y = truth_cell (or3 x.truth y.truth)
  binary_cell Xor x y = truth_cell (xor3 x.truth y.truth)
  binary_cell LogicalAnd x y = truth_cell (and3 x.truth y.truth)
  binary_cell LogicalOr x y = truth_cell (or3 x.truth y.truth)

  -- The cell of a record, where C has the cells of its inputs.
  abbrev pub step : (ℕ → Option K) → (ℕ → Cell K Val) → AExpr Val → Cell K Val
  step row C (Column c) = value_cell (row c)
  step row C (Literal v) = value_cell (some (key v))
  step row C Null = value_cell none
  step row C (BinaryExpr op left right) = binary_cell op (C left) (C right)
  step row C (Not a) = truth_cell (not3 (C a).truth)
  step row C (IsNull a) = truth_cell (of_bool (is_null (C a).value))
  step row C (IsNotNull a) = truth_cell (of_bool (not (is_null (C a).value)))
  step row C (IsBetween low_closed high_closed a low high) =
      truth_cell (between3 low_closed high_closed (C a).value (C low).value (C high).value)
  step row C (ListLiteral holds l) = record { truth = Unknown; value = none; holds_null = holds; values = l }
  step row C (IsIn nulls_equal a list) =
      truth_cell (in3 key O nulls_equal (C list).holds_null (C list).values (C a).value)
  step row C Missing = no_cell

  -- The cells of the records R under a row, by course of values.
  abbrev pub cell_at : (ℕ → AExpr Val) → (ℕ → Option K) → ℕ → Cell K Val
  cell_at R row n = course (λ a. no_cell) (λ C i. step row C (R i)) n

  abbrev pub truth_at : (ℕ → AExpr Val) → (ℕ → Option K) → ℕ → Truth
  truth_at R row n = (cell_at R row n).truth
