-- What the code keeps of each row until all are judged: one number a row.
use Rattle.std.specs.Prelude.{◌≡◌, ℕ, ◌*◌, ◌<◌, ◌≤◌, Bool, List, length, ◌==◌, slice_index}
use Rattle.three_valued.specs.declared.logic.Truth.{Truth}
use Rattle.three_valued.specs.declared.logic.Truth.TheVariants.{False, Unknown, True}
use Rattle.row_test.specs.Answer.{RowAnswer}
use Rattle.row_test.specs.Answer.{Refused, Tested}
use Rattle.row_test.specs.RowTest.{row_fault}
use Rattle.truth.specs.Evaluate.{Evaluable}
use Rattle.masks.specs.Block.{chain_row, chain_truth}
use Rattle.chain_rows.specs.Chain.{row_at}

-- 0 false, 1 unknown, 2 passes; 3 refused
abbrev pub truth_class : Truth → ℕ
truth_class False = 0
truth_class Unknown = 1
truth_class True = 2

abbrev pub class_of : RowAnswer → ℕ
class_of (Refused k) = 3
class_of (Tested t) = truth_class t

-- The first n entries are the classes of the answers.
unfoldable pub Judged : (ℕ → RowAnswer) → List ℕ → ℕ → Type 0
Judged answers classes n = (r : ℕ) → r < n → slice_index classes r ≡ class_of (answers r)

-- Row r has the marks and values that its columns allow.
unfoldable pub row_fits : List ℕ → List ℕ → List ℕ → ℕ → Bool
row_fits t values nulls r = row_fault t (row_at t values r) (slice_index nulls r) == 0

-- The first n entries are the classes of what the rows make of the root.
unfoldable pub Classed : List ℕ → List ℕ → ℕ → List ℕ → List ℕ → ℕ → List ℕ → ℕ → Type 0
Classed rs p columns values nulls root classes n =
    (r : ℕ) → r < n → slice_index classes r ≡ truth_class (chain_truth rs p columns values nulls root r)

-- Rows that all evaluate the root.
pub record Evaluates (rs p : List ℕ) (columns : ℕ) (values nulls : List ℕ) (root : ℕ) : Type 0 where
  pub narrow : columns ≤ 64
  pub short : length nulls ≤ 1024
  pub long : length values ≡ 8 * columns * length nulls
  pub small : root < 4096
  pub evaluable : (r : ℕ) → r < length nulls → Evaluable rs p (chain_row columns values r) root
