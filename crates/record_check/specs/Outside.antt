-- How many of the first values of the pool are outside a type: two such counts say whether the values between are of
-- the type.
use Rattle.std.specs.Prelude.{ℕ, zero, suc, ◌+◌, ◌/◌, ◌≤◌, ◌<◌, List, Bool, cond, ◌≡◌, length, get_or}
use Rattle.records.specs.Bytes.{value_at}
use Rattle.records.specs.Shape.{in_type_in}

-- how many numbers below n do not have f
unfoldable pub misses : (ℕ → Bool) → ℕ → ℕ
misses f zero = 0
misses f (suc n) = misses f n + cond (f n) 0 1

unfoldable pub outside : ℕ → List ℕ → ℕ → ℕ → ℕ
outside text p ty n = misses (λ (k : ℕ). in_type_in text ty (value_at p k)) n

-- a table with the counts of a pool's values outside the type, one entry more than values
unfoldable pub Outside : ℕ → List ℕ → ℕ → List ℕ → Type 0
Outside text p ty l = (k : ℕ) → k ≤ length p / 8 → get_or l k 0 ≡ outside text p ty k

-- a table for one type, or none
abbrev pub CountsOf : ℕ → List ℕ → ℕ → List ℕ → Type 0
CountsOf text p ty l = (length l ≡ 0 → ⊥) → (length p / 8 < length l) × Outside text p ty l

-- three tables, for Day, for Truth and for Text, each there or not
unfoldable pub Counts : ℕ → List ℕ → List ℕ → List ℕ → List ℕ → Type 0
Counts text p days truths symbols = CountsOf text p 2 days × CountsOf text p 3 truths × CountsOf text p 4 symbols
