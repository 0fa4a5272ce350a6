-- `Operator::negate` beside the row test.
use Rattle.std.specs.Prelude.{◌≡◌, true, ℕ, Some}
use Rattle.std.proofs.Math.Option.{Option}
use Rattle.records.specs.Operator.{is_comparison, negate}
use Rattle.records.specs.declared.operator.Operator.{Operator}
use Rattle.truth.specs.Order.{Order}
use Rattle.three_valued.specs.Logic.{not3}
use Rattle.truth.specs.Cell.{TruthKeys, Cell, step}
use Rattle.truth.specs.FromBytes.{binary_expr}

module _ {K : Type 0} (key : ℕ → K) (O : Order K) (tk : TruthKeys O) where
  -- Of any two inputs n makes the Not of what o makes of them: unknown stays unknown.
  abbrev pub IsNotOf : Operator → Operator → Type 0
  IsNotOf o n =
      (row : ℕ → Option K) (C : ℕ → Cell K ℕ) (x y : ℕ) →
      (step key O tk row C (binary_expr n x y)).truth ≡ not3 (step key O tk row C (binary_expr o x y)).truth

  -- Each of the eight comparisons has such an operator, and `negate` gives it.
  abbrev pub NegateIsNot : Type 0
  NegateIsNot = (o : Operator) → is_comparison o ≡ true → (n : Operator) × (negate o ≡ Some n) × IsNotOf o n
