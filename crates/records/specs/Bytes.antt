-- Numbers in little-endian bytes, and two ways to go through the numbers below n.
-- A list of bytes reads as 0 past its end, so every definition over bytes is total.
use Rattle.std.specs.Prelude.{ℕ, zero, suc, ◌+◌, ◌*◌, List, Bool, true, cond, ◌&&◌, get_or, eqb}

-- four bytes, the lowest first
unfoldable pub word : List ℕ → ℕ → ℕ
word s at = get_or s at 0 + 256 * get_or s (at + 1) 0 + 65536 * get_or s (at + 2) 0 + 16777216 * get_or s (at + 3) 0

-- the k-th value of eight bytes, as 64 bits
unfoldable pub value_at : List ℕ → ℕ → ℕ
value_at p k = word p (8 * k) + 4294967296 * word p (8 * k + 4)

-- p holds of every number below n
unfoldable pub all : (ℕ → Bool) → ℕ → Bool
all p zero = true
all p (suc n) = all p n && p n

-- the first of f 0, f 1, .. f (n - 1) that is not 0; 0 if all are 0
unfoldable pub first : (ℕ → ℕ) → ℕ → ℕ
first f zero = 0
first f (suc n) = cond (eqb (first f n) 0) (f n) (first f n)
