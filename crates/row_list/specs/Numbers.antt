-- The list of the rows that pass, by their marks: document 02, 2.14.
use Rattle.std.specs.Prelude.{Bool, cond, List, [], ◌∷◌, ◌++◌, ℕ, zero, suc, ◌+◌, ◌/◌, ◌%◌}

-- How many of the numbers below n have the mark.
unfoldable pub count : (ℕ → Bool) → ℕ → ℕ
count marked zero = 0
count marked (suc n) = count marked n + cond (marked n) 1 0

-- "the numbers of those that pass, ascending, from 0"
unfoldable pub numbers : (ℕ → Bool) → ℕ → List ℕ
numbers marked zero = []
numbers marked (suc n) = numbers marked n ++ cond (marked n) (n ∷ []) []

-- "two bytes each, little-endian"
unfoldable pub bytes_of : List ℕ → List ℕ
bytes_of [] = []
bytes_of (n ∷ l) = n % 256 ∷ n / 256 ∷ bytes_of l
