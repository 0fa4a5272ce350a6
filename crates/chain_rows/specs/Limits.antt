-- What the values of a column's type are told by: a value is one of them where it and the bias, in 64 bits, have no bit of the mask.
use Rattle.std.specs.Prelude.{◌≡◌, ℕ, ◌+◌, ◌*◌, ◌^◌, ◌<◌, cond, List, ◌==◌, slice_index}
use Rattle.records.specs.Bytes.{value_at}

-- A Day is within 2^31 of 0; an Int has no limits.
unfoldable pub limit_bias : ℕ → ℕ
limit_bias ty = cond (ty == 2) 2147483648 0

unfoldable pub limit_mask : ℕ → ℕ
limit_mask ty = cond (ty == 1) 0 (cond (ty == 2) 18446744069414584320 18446744073709551614)

-- The first n columns' limits: the biases, and from place 64 on the masks.
unfoldable pub Limits : List ℕ → List ℕ → ℕ → Type 0
Limits table limits n =
    (c : ℕ) → c < n → (slice_index limits c ≡ limit_bias (slice_index table c)) × (slice_index limits (64 + c) ≡ limit_mask (slice_index table c))

-- The values of a row's first n columns are 64 bits.
unfoldable pub WideRow : ℕ → List ℕ → ℕ → ℕ → Type 0
WideRow columns values row n = (c : ℕ) → c < n → value_at values (columns * row + c) < 2 ^ 64
