-- The numbers of all columns in one array: 64 rows of one length.
use Rattle.std.specs.Prelude.{◌≡◌, false, List, ℕ, ◌*◌, ◌/◌, ◌<◌, length, take, drop, eqb}

-- The length of a row.
abbrev pub stride : List ℕ → ℕ
stride ms = length ms / 64

-- The row of column x.
unfoldable pub row_of : List ℕ → ℕ → List ℕ
row_of ms x = take (stride ms) (drop (x * stride ms) ms)

-- At most the row of x was written.
pub record RowsKept (a b : List ℕ) (x : ℕ) : Type 0 where
  pub size : length b ≡ length a
  pub others : (y : ℕ) → y < 64 → eqb x y ≡ false → row_of b y ≡ row_of a y
