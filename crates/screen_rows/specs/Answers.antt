-- The numbers and values that the C interface gives for each answer. An answer below 256 is a refusal with 01's number;
-- 256 and up is an answer. An out-parameter that an answer does not set keeps its value.
use Rattle.std.specs.Prelude.{ℕ}
use Rattle.checking.specs.Answer.{CheckAnswer}
use Rattle.checking.specs.Answer as check
use Rattle.checking.specs.ReadAnswer.{ColumnsAnswer}
use Rattle.checking.specs.ReadAnswer as columns
use Rattle.three_valued.specs.declared.logic.Truth.{Truth}
use Rattle.three_valued.specs.declared.logic.Truth.TheVariants.{False, Unknown, True}
use Rattle.row_test.specs.Answer.{RowAnswer}
use Rattle.row_test.specs.Answer as row

-- checking: 256 accepted
abbrev pub check_number : CheckAnswer → ℕ
check_number (check.Refused k) = k
check_number check.Accepted = 256

-- columns read: 256, with the word and the count
abbrev pub columns_number : ColumnsAnswer → ℕ
columns_number (columns.Refused k) = k
columns_number (columns.Read word count) = 256

-- the word that stands in `columns` after the call, which found `old` there
abbrev pub columns_out : ColumnsAnswer → ℕ → ℕ
columns_out (columns.Refused k) old = old
columns_out (columns.Read word count) old = word

-- the same of `count`
abbrev pub count_out : ColumnsAnswer → ℕ → ℕ
count_out (columns.Refused k) old = old
count_out (columns.Read word count) old = count

-- a truth: 256 false, 257 unknown, 258 true
abbrev pub truth_number : Truth → ℕ
truth_number False = 256
truth_number Unknown = 257
truth_number True = 258

-- testing a row
abbrev pub row_number : RowAnswer → ℕ
row_number (row.Refused k) = k
row_number (row.Tested t) = truth_number t
