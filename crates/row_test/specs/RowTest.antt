-- Testing a row: document 01, 'Testing a row'. Checking first (1 to 7), then the tree (8), the row's length (12), its
-- marks and values (13); else the root's truth. t is the column table, rs the records, p the pool.
use Rattle.std.specs.Prelude.{Bool, cond, ◌&&◌, List, ℕ, ◌*◌, ◌^◌, ltb, eqb, length, get_or}
use Rattle.records.specs.Bytes.{value_at, all}
use Rattle.records.specs.Shape.{in_type}
use Rattle.checking.specs.Check.{check_answer}
use Rattle.checking.specs.Tree.{tree_count}
use Rattle.checking.specs.Answer.{CheckAnswer}
use Rattle.checking.specs.Answer as check
use Rattle.row_test.specs.Answer.{RowAnswer}
use Rattle.row_test.specs.Answer.{Refused, Tested}
use Rattle.truth.specs.FromBytes.{aexpr_at, null_marked, row_keys, truth_in}

-- A null column's value is zero; any other is a value of the column's type.
unfoldable pub column_ok : ℕ → Bool → ℕ → Bool
column_ok ty is_null v = cond is_null (eqb v 0) (in_type ty v)

-- Every column, read or not.
unfoldable pub columns_ok : List ℕ → List ℕ → ℕ → Bool
columns_ok t row nulls = all (λ (c : ℕ). column_ok (get_or t c 0) (null_marked nulls c) (value_at row c)) (length t)

-- No null mark at or above the column count.
abbrev pub marks_ok : ℕ → ℕ → Bool
marks_ok count nulls = ltb nulls (2 ^ count)

-- 12 if the row has not exactly eight bytes a column, 13 for its marks and values, 0 for no fault
unfoldable pub row_fault : List ℕ → List ℕ → ℕ → ℕ
row_fault t row nulls =
    cond (eqb (length row) (8 * length t)) (cond (marks_ok (length t) nulls && columns_ok t row nulls) 0 13) 12

-- The answer for a screen that checking accepts.
unfoldable pub checked_answer : List ℕ → List ℕ → List ℕ → ℕ → ℕ → List ℕ → ℕ → RowAnswer
checked_answer t rs p used root row nulls =
    cond (ltb 4096 (tree_count rs root)) (Refused 8)
    (cond (eqb (row_fault t row nulls) 0)
    (Tested (truth_in (aexpr_at rs p used) (row_keys row nulls) root))
    (Refused (row_fault t row nulls)))

abbrev pub answer_if : CheckAnswer → RowAnswer → RowAnswer
answer_if (check.Refused number) answer = Refused number
answer_if check.Accepted answer = answer

-- What testing a row answers, for every input.
unfoldable pub test_row_answer : List ℕ → List ℕ → List ℕ → ℕ → ℕ → List ℕ → ℕ → RowAnswer
test_row_answer t rs p used root row nulls =
    answer_if (check_answer t rs p used root) (checked_answer t rs p used root row nulls)
