-- How long the text of a screen's reasons can be: 64 columns, 128 lines, 64 bits a number, 16 bytes a symbol.
use Rattle.std.specs.Prelude.{List, [], ◌∷◌, ℕ, ◌*◌, ◌<◌, ◌≤◌, ℤ, pos, negsuc, length}
use Rattle.merge.specs.Reasons.{ReasonValue, Whole, Bytes, Reason}
use Rattle.reasons.specs.Text.{reasons_text}

abbrev pub In64 : ℤ → Type 0
In64 (pos n) = n < 9223372036854775808
In64 (negsuc n) = n < 9223372036854775808

abbrev pub ValueFits : ReasonValue → Type 0
ValueFits (Whole z) = In64 z
ValueFits (Bytes l) = length l ≤ 16

abbrev pub OfScreen : List Reason → Type 0
OfScreen [] = Unit {0}
OfScreen (r ∷ l) = (r.column < 64) × ValueFits r.value × (r.line < 128) × OfScreen l

-- Without symbols.
abbrev pub IsWhole : ReasonValue → Type 0
IsWhole (Whole z) = Unit {0}
IsWhole (Bytes l) = ⊥

abbrev pub WholeOnly : List Reason → Type 0
WholeOnly [] = Unit {0}
WholeOnly (r ∷ l) = IsWhole r.value × WholeOnly l

-- at most 34 bytes a line
abbrev pub AtMost34 : Type 0
AtMost34 = (l : List Reason) → OfScreen l → WholeOnly l → length (reasons_text l) ≤ 34 * length l

-- with symbols at most 47
abbrev pub AtMost47 : Type 0
AtMost47 = (l : List Reason) → OfScreen l → length (reasons_text l) ≤ 47 * length l
