-- A symbol in the text of reasons (02, 2.10): the letter t and two lower-case hexadecimal digits a byte.
use Rattle.std.specs.Prelude.{cond, List, [], ◌∷◌, ℕ, ◌+◌, ◌/◌, ◌%◌, ltb}

-- 0 to 9, then a to f
unfoldable pub hex_digit : ℕ → ℕ
hex_digit n = cond (ltb n 10) (48 + n) (87 + n)

unfoldable pub hex_bytes : List ℕ → List ℕ
hex_bytes [] = []
hex_bytes (b ∷ l) = hex_digit (b / 16) ∷ hex_digit (b % 16) ∷ hex_bytes l

unfoldable pub symbol_text : List ℕ → List ℕ
symbol_text l = 116 ∷ hex_bytes l
