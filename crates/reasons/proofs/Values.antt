-- What is shown of a value, by its column's type.
use mathlib.Core.Path.{◌≡◌}
use mathlib.Core.Bool.{true, false}
use mathlib.Core.List.{List}
use Prim.Native.Nat.{ℕ}
use lib.Dec.{eqb}
use lib.ListN.{get_or}
use mir.Syntax.{w64}
use mir.Val.{to_z}
use Rattle.symbols.specs.Symbol.{symbol}
use Rattle.merge.specs.Reasons.{shown_in}
use Rattle.decimals.specs.Decimal.{signed}
use Rattle.symbol_text.specs.Hex.{symbol_text}
use Rattle.reasons.specs.Text.{value_text}

module _ (t text : List ℕ) (c v : ℕ) where
  pub shown-symbol : eqb (get_or t c 0) 4 ≡ true → value_text (shown_in t text c v) ≡ symbol_text (symbol text v)
  unfolding shown_in value_text
  shown-symbol e = rw e

  pub shown-number : eqb (get_or t c 0) 4 ≡ false → value_text (shown_in t text c v) ≡ signed (to_z w64 v)
  unfolding shown_in value_text
  shown-number e = rw e
