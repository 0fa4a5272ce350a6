-- Rows of symbols as numbers (02, 2.10): in the place of each symbol stands the number that the text's words C give it (text_order, Codes).
-- `RowRanks` is what is promised of one row, `BlockRanks` of a block of a chain's rows.
use Rattle.std.specs.Prelude.{◌≡◌, Bool, true, false, not, ◌&&◌, List, ℕ, ◌+◌, ◌<◌, eqb, length, get_or}
use Rattle.records.specs.Bytes.{value_at}
use Rattle.truth.specs.FromBytes.{null_marked}
use Rattle.masks.specs.Block.{chain_row}
use Rattle.text_order.specs.Codes.{code_of}

-- Column c is of type Text, and not marked null.
unfoldable pub holds_symbol : List ℕ → ℕ → ℕ → Bool
holds_symbol t nulls c = eqb (get_or t c 0) 4 && not (null_marked nulls c)

-- The first n columns of `out` are the row's, eight bytes a column, with numbers in the place of its symbols.
pub record RowRanks (t C row : List ℕ) (nulls n : ℕ) (out : List ℕ) : Type 0 where
  pub kept : (c : ℕ) → c < n → holds_symbol t nulls c ≡ false → value_at out c ≡ value_at row c
  pub coded : (c : ℕ) → c < n → holds_symbol t nulls c ≡ true → value_at out c ≡ code_of C (value_at row c)

-- `block` holds rows of a chain, from `base` on, with numbers in the place of the symbols.
pub record BlockRanks (t C values nulls : List ℕ) (base count : ℕ) (block : List ℕ) : Type 0 where
  pub rows : (i : ℕ) → i < count
      → RowRanks t C (chain_row (length t) values (base + i)) (get_or nulls (base + i) 0) (length t) (chain_row (length t) block i)

-- The rows of the block before row i are as they were.
pub record RowsBefore (columns i : ℕ) (before after : List ℕ) : Type 0 where
  pub same : (j : ℕ) → j < i → chain_row columns after j ≡ chain_row columns before j
