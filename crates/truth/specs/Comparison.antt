-- The six ordinary comparisons, of what `cmp left right` answers.
use Rattle.std.specs.Prelude.{Bool, not}
use Rattle.std.specs.declared.cmp.Ordering.{Ordering}
use Rattle.truth.specs.Order.{is_less, is_equal, is_greater}

pub data Comparison : Type 0 where
  Eq NotEq Lt LtEq Gt GtEq : Comparison

abbrev pub comparison_holds : Comparison → Ordering → Bool
comparison_holds Eq o = is_equal o
comparison_holds NotEq o = not (is_equal o)
comparison_holds Lt o = is_less o
comparison_holds LtEq o = not (is_greater o)
comparison_holds Gt o = is_greater o
comparison_holds GtEq o = not (is_less o)
