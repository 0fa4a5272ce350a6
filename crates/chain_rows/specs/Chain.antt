-- A chain of rows under a screen: document 02, 2.14. t is the column table, rs the records, p the pool; `values` has the
-- rows' values, row after row, `nulls` a word of null marks a row.
use Rattle.std.specs.Prelude.{ℕ, ◌*◌, Bool, true, false, List, length, take, drop, slice_index}
use Rattle.row_test.specs.RowTest.{test_row_answer}
use Rattle.three_valued.specs.declared.logic.Truth.TheVariants.{False, Unknown, True}
use Rattle.row_test.specs.Answer.{RowAnswer}
use Rattle.row_test.specs.Answer.{Refused, Tested}

-- Row r: eight bytes a column.
unfoldable pub row_at : List ℕ → List ℕ → ℕ → List ℕ
row_at t values r = take (8 * length t) (drop (8 * length t * r) values)

-- What testing row r answers, by the row test itself.
unfoldable pub answer_at : List ℕ → List ℕ → List ℕ → ℕ → ℕ → List ℕ → List ℕ → ℕ → RowAnswer
answer_at t rs p used root values nulls r = test_row_answer t rs p used root (row_at t values r) (slice_index nulls r)

-- The classes of rows. "A row passes on true only."
abbrev pub passes : RowAnswer → Bool
passes (Refused k) = false
passes (Tested False) = false
passes (Tested Unknown) = false
passes (Tested True) = true

abbrev pub is_false : RowAnswer → Bool
is_false (Refused k) = false
is_false (Tested False) = true
is_false (Tested Unknown) = false
is_false (Tested True) = false

abbrev pub is_unknown : RowAnswer → Bool
is_unknown (Refused k) = false
is_unknown (Tested False) = false
is_unknown (Tested Unknown) = true
is_unknown (Tested True) = false

abbrev pub is_tested : RowAnswer → Bool
is_tested (Refused k) = false
is_tested (Tested t) = true
