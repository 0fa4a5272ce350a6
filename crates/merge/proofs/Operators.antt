-- What the operators' methods are of the six ordinary comparisons.
use mathlib.Core.Path.{◌≡◌, refl}
use mathlib.Core.Option.{some}
use Rattle.records.specs.Operator.{swap_operands}
use Rattle.std.specs.Prelude.{Some}
use Rattle.truth.specs.Comparison.{Comparison, Eq, NotEq, Lt, LtEq, Gt, GtEq}
use Rattle.merge.specs.Classify.{comparison_operator, ordinary_comparison}

-- `swap_operands` of the six ordinary comparisons.
abbrev pub swap_comparison : Comparison → Comparison
swap_comparison Eq = Eq
swap_comparison NotEq = NotEq
swap_comparison Lt = Gt
swap_comparison LtEq = GtEq
swap_comparison Gt = Lt
swap_comparison GtEq = LtEq

pub ordinary_of : (o : Comparison) → ordinary_comparison (comparison_operator o) ≡ some o
ordinary_of Eq = refl
ordinary_of NotEq = refl
ordinary_of Lt = refl
ordinary_of LtEq = refl
ordinary_of Gt = refl
ordinary_of GtEq = refl

pub swap_of : (o : Comparison) → swap_operands (comparison_operator o) ≡ Some (comparison_operator (swap_comparison o))
swap_of Eq = refl
swap_of NotEq = refl
swap_of Lt = refl
swap_of LtEq = refl
swap_of Gt = refl
swap_of GtEq = refl
