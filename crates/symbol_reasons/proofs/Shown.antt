-- Reasons by the column's type, and by what a value is: the same, where each value is of its column's type.
use mathlib.Core.Path.{◌≡◌, refl, ap}
use mathlib.Core.Bool.{Bool, true, false, cond}
use mathlib.Core.List.{List, [], ◌∷◌, map}
use Prim.Native.Nat.{ℕ}
use lib.Dec.{eqb}
use lib.ListN.{get_or}
use Rattle.symbols.specs.Symbol.{symbol}
use Rattle.constraints.specs.Comparisons.{ColumnComparison, IsEq, IsLower, IsUpper, IsNotEq}
use Rattle.constraints.specs.Lined.{Lined}
use Rattle.constraints.specs.Mapped.{map_comparison}
use Rattle.merge.specs.Reasons.{Reason, Bytes, as_number, shown_in, reason_of}
use Rattle.merge.specs.Rebuild.{comparison_of}
use Rattle.symbol_screens.specs.Held.{Number, Symbol, held}
use Rattle.symbol_reasons.specs.Lined.{LinedHeld}
use Rattle.symbol_reasons.specs.Explained.{held_shown, held_reason}

-- A column's value by the column's type, under its line.
abbrev pub held_in_column : List ℕ → ℕ → Lined → LinedHeld
held_in_column t c v = record { held = held (get_or t c 0) v.bits; line = v.line }

abbrev pub held_comparisons : List ℕ → List (ℕ × ColumnComparison Lined) → List (ℕ × ColumnComparison LinedHeld)
held_comparisons t [] = []
held_comparisons t (x ∷ l) = (x.0, map_comparison (held_in_column t x.0) x.1) ∷ held_comparisons t l

module _ (t text : List ℕ) where
  pub shown-held : (c v : ℕ) → held_shown text (held (get_or t c 0) v) ≡ shown_in t text c v
  unfolding shown_in
  shown-held c v = go (eqb (get_or t c 0) 4)
    where
      go : (b : Bool) → held_shown text (cond b (Symbol v) (Number v)) ≡ cond b (Bytes (symbol text v)) (as_number c v)
      go true = refl
      go false = refl

  reason_shown : (c : ℕ) (x : ColumnComparison Lined) →
      held_reason text (c, map_comparison (held_in_column t c) x) ≡ reason_of (shown_in t text) (c, x)
  reason_shown c (IsEq v) = λ i. record { column = c; operator = comparison_of (IsEq v); value = shown-held c v.bits i; line = v.line }
  reason_shown c (IsLower true v) =
      λ i. record { column = c; operator = comparison_of (IsLower true v); value = shown-held c v.bits i; line = v.line }
  reason_shown c (IsLower false v) =
      λ i. record { column = c; operator = comparison_of (IsLower false v); value = shown-held c v.bits i; line = v.line }
  reason_shown c (IsUpper true v) =
      λ i. record { column = c; operator = comparison_of (IsUpper true v); value = shown-held c v.bits i; line = v.line }
  reason_shown c (IsUpper false v) =
      λ i. record { column = c; operator = comparison_of (IsUpper false v); value = shown-held c v.bits i; line = v.line }
  reason_shown c (IsNotEq v) =
      λ i. record { column = c; operator = comparison_of (IsNotEq v); value = shown-held c v.bits i; line = v.line }

  -- What the code writes by the table is the text of the values by what they are.
  pub reasons_shown : (l : List (ℕ × ColumnComparison Lined)) →
      map (held_reason text) (held_comparisons t l) ≡ map (reason_of (shown_in t text)) l
  reasons_shown [] = refl
  reasons_shown (x ∷ l) = λ i. reason_shown x.0 x.1 i ∷ reasons_shown l i
