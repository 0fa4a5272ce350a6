-- What the loop over the columns has written, as far as column n.
use Rattle.std.specs.Prelude.{◌≡◌, List, ℕ, ◌<◌, ◌^◌}
use Rattle.constraints.specs.Column.{ColumnConstraints}
use Rattle.masks.specs.Masks.{mask_to}
use Rattle.merge.specs.Write.{splice}
use Rattle.row_shown.specs.Shown.{null_in, place_in, places_bytes}

-- `old` is the row buffer before, `row` after; whole parts have 64 bits.
pub record RowWritten (order : List ℕ) (table : ℕ → ColumnConstraints ℕ) (n : ℕ) (old row : List ℕ) (nulls : ℕ)
    : Type 0 where
  pub marks : nulls ≡ mask_to (null_in order table) n
  pub bytes : row ≡ splice old 0 (places_bytes (place_in order table) n)
  pub low : (c : ℕ) → c < n → (place_in order table c).whole < 2 ^ 64
