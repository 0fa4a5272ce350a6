-- Testing a row of a screen with symbols (02, 2.10): as without (row_test, RowTest), by the keys of its text pool. A Text
-- value of the row that does not lie in the pool is 13. t is the column table, rs the records, p the pool, text the bytes
-- of the text pool.
use Rattle.std.specs.Prelude.{Bool, cond, ◌&&◌, List, ℕ, ◌*◌, ltb, eqb, length, get_or}
use Rattle.records.specs.Bytes.{value_at, all}
use Rattle.records.specs.Shape.{in_type_in}
use Rattle.checking.specs.Check.{check_answer_in}
use Rattle.checking.specs.Tree.{tree_count}
use Rattle.row_test.specs.Answer.{RowAnswer}
use Rattle.row_test.specs.Answer.{Refused, Tested}
use Rattle.row_test.specs.RowTest.{marks_ok, answer_if}
use Rattle.truth.specs.FromBytes.{null_marked}
use Rattle.symbol_screens.specs.Reading.{held_at}
use Rattle.symbol_screens.specs.Rewriting.{lent}
use Rattle.symbol_screens.specs.Rows.{row_keys_with, truth_with}

-- A null column's value is zero; any other is a value of the column's type. What is lent is as checking takes it.
unfoldable pub column_ok_with : ℕ → ℕ → Bool → ℕ → Bool
column_ok_with lent_text ty is_null v = cond is_null (eqb v 0) (in_type_in lent_text ty v)

-- Every column, read or not.
unfoldable pub columns_ok_with : ℕ → List ℕ → List ℕ → ℕ → Bool
columns_ok_with lent_text t row nulls =
    all (λ (c : ℕ). column_ok_with lent_text (get_or t c 0) (null_marked nulls c) (value_at row c)) (length t)

-- 12 if the row has not exactly eight bytes a column, 13 for its marks and values, 0 for no fault
unfoldable pub row_fault_with : List ℕ → List ℕ → List ℕ → ℕ → ℕ
row_fault_with text t row nulls =
    cond (eqb (length row) (8 * length t))
    (cond (marks_ok (length t) nulls && columns_ok_with (lent text) t row nulls) 0 13) 12

-- The answer for a screen that checking accepts.
unfoldable pub checked_answer_with : List ℕ → List ℕ → List ℕ → List ℕ → ℕ → ℕ → List ℕ → ℕ → RowAnswer
checked_answer_with text t rs p used root row nulls =
    cond (ltb 4096 (tree_count rs root)) (Refused 8)
    (cond (eqb (row_fault_with text t row nulls) 0)
    (Tested (truth_with text (held_at rs p used) (row_keys_with text t row nulls) root))
    (Refused (row_fault_with text t row nulls)))

-- What testing a row answers, for every input.
unfoldable pub test_row_answer_with : List ℕ → List ℕ → List ℕ → List ℕ → ℕ → ℕ → List ℕ → ℕ → RowAnswer
test_row_answer_with text t rs p used root row nulls =
    answer_if (check_answer_in (lent text) t rs p used root) (checked_answer_with text t rs p used root row nulls)
