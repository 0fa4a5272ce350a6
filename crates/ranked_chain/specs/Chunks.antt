-- Rows of a chain that are judged by their numbers.
use Rattle.std.specs.Prelude.{◌≡◌, List, ℕ, ◌+◌, ◌*◌, ◌%◌, ◌≤◌, ◌<◌, length, get_or}
use Rattle.three_valued.specs.declared.logic.Truth.{Truth}
use Rattle.truth.specs.Evaluate.{row_truth, Evaluable}
use Rattle.masks.specs.Block.{chain_row}
use Rattle.chain_rows.specs.Classes.{truth_class}
use Rattle.row_ranks.specs.RowRanks.{RowRanks}

-- Records and a pool whose root every row of so many columns evaluates.
pub record EveryRow (columns : ℕ) (rs p : List ℕ) (root : ℕ) : Type 0 where
  pub small : root < 4096
  pub room : 16 * root + 15 < length rs
  pub pooled : length p ≤ 131072
  pub even : length p % 16 ≡ 0
  pub evaluable : (row : List ℕ) → length row ≡ 8 * columns → Evaluable rs p row root

-- f says what the numbers of each row, whichever they are, make of the root.
pub record RowTruths (t C values nulls rs p : List ℕ) (root : ℕ) (f : ℕ → Truth) : Type 0 where
  pub truths : (r : ℕ) → r < length nulls → (row : List ℕ) → length row ≡ 8 * length t
      → RowRanks t C (chain_row (length t) values r) (get_or nulls r 0) (length t) row → row_truth rs p row (get_or nulls r 0) root ≡ f r

-- The first n classes are those of f.
unfoldable pub ClassesOf : (ℕ → Truth) → List ℕ → ℕ → Type 0
ClassesOf f classes n = (r : ℕ) → r < n → get_or classes r 0 ≡ truth_class (f r)
