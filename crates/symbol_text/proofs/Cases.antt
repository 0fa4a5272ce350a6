-- Texts computed on the definitions.
use mathlib.Core.Path.{◌≡◌, refl}
use mathlib.Core.List.{List, [], ◌∷◌}
use Rattle.symbol_text.specs.Hex.{hex_digit, hex_bytes, symbol_text}

-- the bytes 0, 9, 10, 175 and 255: t00090aafff
pub digits-computed :
    symbol_text (0 ∷ 9 ∷ 10 ∷ 175 ∷ 255 ∷ []) ≡ 116 ∷ 48 ∷ 48 ∷ 48 ∷ 57 ∷ 48 ∷ 97 ∷ 97 ∷ 102 ∷ 102 ∷ 102 ∷ []
unfolding hex_digit hex_bytes symbol_text
digits-computed = refl
