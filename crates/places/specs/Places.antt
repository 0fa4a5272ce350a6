-- A row of whole numbers, halves and nulls as a host lends it (02, 2.7): for each column a place of 16 bytes, a whole part and
-- a half part, both 64 bits in two's complement, beside one word of null marks.
use Rattle.std.specs.Prelude.{Bool, cond, ◌&&◌, ◌||◌, List, ℕ, ◌+◌, ◌*◌, ◌^◌, eqb, ltb, ℤ, ◌+ℤ◌, length}
use Rattle.std.proofs.Math.Option.{Option, none, some}
use Rattle.std.specs.Int.{w64}
use Rattle.std.proofs.Common.{to_z}
use Rattle.records.specs.Bytes.{value_at, all}
use Rattle.truth.specs.Halves.{key}
use Rattle.truth.specs.FromBytes.{null_marked}

-- The parts of column c's place, as bits.
abbrev pub whole_at : List ℕ → ℕ → ℕ
whole_at row c = value_at row (2 * c)

abbrev pub half_at : List ℕ → ℕ → ℕ
half_at row c = value_at row (2 * c + 1)

-- The value is the whole part and half of the half part; keys count halves. So (3, +1) and (4, -1) are one value.
abbrev pub place_key : ℕ → ℕ → ℤ
place_key whole half = key whole +ℤ to_z w64 half

-- The row of keys that the bytes and the null marks stand for.
unfoldable pub places_row : List ℕ → ℕ → ℕ → Option ℤ
places_row row nulls c = cond (null_marked nulls c) none (some (place_key (whole_at row c) (half_at row c)))

-- A half part is -1, 0 or +1.
abbrev pub is_half : ℕ → Bool
is_half half = eqb half 0 || (eqb half 1 || eqb half 18446744073709551615)

-- A null column's parts are zero.
unfoldable pub place_ok : Bool → ℕ → ℕ → Bool
place_ok is_null whole half = cond is_null (eqb whole 0 && eqb half 0) (is_half half)

-- What 18 asks: 16 bytes a column, no null mark at or above the column count, and each place as above.
unfoldable pub places_ok : ℕ → List ℕ → ℕ → Bool
places_ok columns row nulls =
    eqb (length row) (16 * columns)
    && (ltb nulls (2 ^ columns) && all (λ (c : ℕ). place_ok (null_marked nulls c) (whole_at row c) (half_at row c)) columns)
