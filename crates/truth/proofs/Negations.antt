-- The complement of a comparison: over the order once, and so for every value, null and operator.
use mathlib.Core.Path.{◌≡◌, refl, sym, ◌∙◌, ap}
use mathlib.Core.Bool.{Bool, true, false, not, true≢false}
use mathlib.Core.Option.{Option, none, some}
use Prim.Native.Nat.{ℕ}
use Rattle.records.specs.declared.operator.Operator.TheVariants as operator
use Rattle.std.specs.declared.cmp.Ordering.{Ordering}
use Rattle.truth.specs.Order.{Order, is_equal, is_less, is_greater}
use Rattle.truth.specs.Comparison.{Comparison, Eq, NotEq, Lt, LtEq, Gt, GtEq, comparison_holds}
use Rattle.three_valued.specs.Logic.{not3, of_bool}
use Rattle.truth.specs.Cell.{TruthKeys, compare3, same_value}
use Rattle.truth.specs.Negation.{NegateIsNot}

-- `negate` of the six ordinary comparisons.
abbrev pub negate_comparison : Comparison → Comparison
negate_comparison Eq = NotEq
negate_comparison NotEq = Eq
negate_comparison Lt = GtEq
negate_comparison LtEq = Gt
negate_comparison Gt = LtEq
negate_comparison GtEq = Lt

twice : (b : Bool) → b ≡ not (not b)
twice true = refl
twice false = refl

pub not-of : (b : Bool) → of_bool (not b) ≡ not3 (of_bool b)
not-of true = refl
not-of false = refl

holds_negated : (o : Comparison) (r : Ordering) → comparison_holds (negate_comparison o) r ≡ not (comparison_holds o r)
holds_negated Eq r = refl
holds_negated NotEq r = twice (is_equal r)
holds_negated Lt r = refl
holds_negated LtEq r = twice (is_greater r)
holds_negated Gt r = refl
holds_negated GtEq r = twice (is_less r)

module _ {K Val : Type 0} (key : Val → K) (O : Order K) (tk : TruthKeys O) where
  pub compare-negate : (o : Comparison) (x y : Option K) → compare3 key O tk (negate_comparison o) x y ≡
      not3 (compare3 key O tk o x y)
  compare-negate o none y = refl
  compare-negate o (some a) none = refl
  compare-negate o (some a) (some b) =
      ap of_bool (holds_negated o (O.cmp a b)) ∙ not-of (comparison_holds o (O.cmp a b))

  same-negate : (x y : Option K) → of_bool (same_value key O tk x y) ≡ not3 (of_bool (not (same_value key O tk x y)))
  same-negate x y = ap of_bool (twice (same_value key O tk x y)) ∙ not-of (not (same_value key O tk x y))

module _ {K : Type 0} (key : ℕ → K) (O : Order K) (tk : TruthKeys O) where
  pub negate-is_not : NegateIsNot key O tk
  negate-is_not operator.Eq h =
      (operator.NotEq, refl, λ row C x y. compare-negate key O tk Eq (C x).value (C y).value)
  negate-is_not operator.EqValidity h =
      (operator.NotEqValidity, refl, λ row C x y. not-of (same_value key O tk (C x).value (C y).value))
  negate-is_not operator.NotEq h =
      (operator.Eq, refl, λ row C x y. compare-negate key O tk NotEq (C x).value (C y).value)
  negate-is_not operator.NotEqValidity h =
      (operator.EqValidity, refl, λ row C x y. same-negate key O tk (C x).value (C y).value)
  negate-is_not operator.Lt h =
      (operator.GtEq, refl, λ row C x y. compare-negate key O tk Lt (C x).value (C y).value)
  negate-is_not operator.LtEq h =
      (operator.Gt, refl, λ row C x y. compare-negate key O tk LtEq (C x).value (C y).value)
  negate-is_not operator.Gt h =
      (operator.LtEq, refl, λ row C x y. compare-negate key O tk Gt (C x).value (C y).value)
  negate-is_not operator.GtEq h =
      (operator.Lt, refl, λ row C x y. compare-negate key O tk GtEq (C x).value (C y).value)
  negate-is_not operator.Plus h = absurd (true≢false (sym h))
  negate-is_not operator.Minus h = absurd (true≢false (sym h))
  negate-is_not operator.Multiply h = absurd (true≢false (sym h))
  negate-is_not operator.RustDivide h = absurd (true≢false (sym h))
  negate-is_not operator.TrueDivide h = absurd (true≢false (sym h))
  negate-is_not operator.FloorDivide h = absurd (true≢false (sym h))
  negate-is_not operator.Modulus h = absurd (true≢false (sym h))
  negate-is_not operator.And h = absurd (true≢false (sym h))
  negate-is_not operator.Or h = absurd (true≢false (sym h))
  negate-is_not operator.Xor h = absurd (true≢false (sym h))
  negate-is_not operator.LogicalAnd h = absurd (true≢false (sym h))
  negate-is_not operator.LogicalOr h = absurd (true≢false (sym h))
