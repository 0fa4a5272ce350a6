-- Texts computed on the definitions.
use mathlib.Core.Path.{◌≡◌, refl}
use mathlib.Core.List.{List, [], ◌∷◌}
use Prim.Native.Nat.{ℕ}
use lib.IntN.{ℤ, pos, negsuc}
use Rattle.truth.specs.Comparison.{Eq, GtEq, Lt, NotEq}
use Rattle.merge.specs.Reasons.{Whole, Bytes, Reason}
use Rattle.decimals.specs.Decimal.{digits, decimal, signed}
use Rattle.symbol_text.specs.Hex.{hex_digit, hex_bytes, symbol_text}
use Rattle.reasons.specs.Text.{operator_name, value_text, reason_text, reasons_text}

-- 0 has one digit
pub no_unit : (decimal 0 ≡ 48 ∷ []) × (decimal 10 ≡ 49 ∷ 48 ∷ []) × (decimal 1024 ≡ 49 ∷ 48 ∷ 50 ∷ 52 ∷ [])
unfolding digits decimal
no_unit = (refl, refl, refl)

-- 9223372036854775807, the largest value
pub largest :
    signed (pos 9223372036854775807) ≡
    57 ∷ 50 ∷ 50 ∷ 51 ∷ 51 ∷ 55 ∷ 50 ∷ 48 ∷ 51 ∷ 54 ∷ 56 ∷ 53 ∷ 52 ∷ 55 ∷ 55 ∷ 53 ∷ 56 ∷ 48 ∷ 55 ∷ []
unfolding digits decimal signed
largest = refl

-- -9223372036854775808, the smallest value
pub smallest :
    signed (negsuc 9223372036854775807) ≡
    45 ∷ 57 ∷ 50 ∷ 50 ∷ 51 ∷ 51 ∷ 55 ∷ 50 ∷ 48 ∷ 51 ∷ 54 ∷ 56 ∷ 53 ∷ 52 ∷ 55 ∷ 55 ∷ 53 ∷ 56 ∷ 48 ∷ 56 ∷ []
unfolding digits decimal signed
smallest = refl

-- `0 GtEq 5 2`, `63 Lt -1 127`, each closed by byte 10
pub two_lines_lem :
    reasons_text
    (record { column = 0; operator = GtEq; value = Whole (pos 5); line = 2 } ∷
    (record { column = 63; operator = Lt; value = Whole (negsuc 0); line = 127 } ∷ [])) ≡
    48 ∷ 32 ∷ 71 ∷ 116 ∷ 69 ∷ 113 ∷ 32 ∷ 53 ∷ 32 ∷ 50 ∷ 10 ∷
    54 ∷ 51 ∷ 32 ∷ 76 ∷ 116 ∷ 32 ∷ 45 ∷ 49 ∷ 32 ∷ 49 ∷ 50 ∷ 55 ∷ 10 ∷ []
unfolding digits decimal signed operator_name value_text reason_text reasons_text
two_lines_lem = refl

-- `1 Eq t53505a 0` of the symbol SPZ, and `1 NotEq t 3` of the empty one
pub symbol-lines :
    reasons_text
    (record { column = 1; operator = Eq; value = Bytes (83 ∷ 80 ∷ 90 ∷ []); line = 0 } ∷
    (record { column = 1; operator = NotEq; value = Bytes []; line = 3 } ∷ [])) ≡
    49 ∷ 32 ∷ 69 ∷ 113 ∷ 32 ∷ 116 ∷ 53 ∷ 51 ∷ 53 ∷ 48 ∷ 53 ∷ 97 ∷ 32 ∷ 48 ∷ 10 ∷
    49 ∷ 32 ∷ 78 ∷ 111 ∷ 116 ∷ 69 ∷ 113 ∷ 32 ∷ 116 ∷ 32 ∷ 51 ∷ 10 ∷ []
unfolding digits decimal hex_digit hex_bytes symbol_text operator_name value_text reason_text reasons_text
symbol-lines = refl
