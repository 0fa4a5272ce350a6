-- A number as bytes, decimal without leading zeros: 02, 2.6.
use Rattle.std.specs.Prelude.{cond, List, [], ◌∷◌, ◌++◌, ℕ, zero, suc, ◌+◌, ◌/◌, ◌%◌, ltb, ℤ, pos, negsuc}

-- its last digit
abbrev pub last_digit : ℕ → ℕ
last_digit n = 48 + n % 10

-- its digits, the highest first, if it has no more than `more` beside the last one
unfoldable pub digits : ℕ → ℕ → List ℕ
digits zero n = last_digit n ∷ []
digits (suc more) n =
    let front = digits more (n / 10) in
    cond (ltb n 10) [] front ++ (last_digit n ∷ [])

-- no number has more digits than units
unfoldable pub decimal : ℕ → List ℕ
decimal n = digits n n

-- a minus before negative ones
unfoldable pub signed : ℤ → List ℕ
signed (pos n) = decimal n
signed (negsuc n) = 45 ∷ decimal (suc n)
