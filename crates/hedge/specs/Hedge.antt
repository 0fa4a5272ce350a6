-- The hedge list's answer: document 02, 2.14. Refusals in this order: 1 to 7 as checking, 8, 20, 12, 13, 21.
use Rattle.std.specs.Prelude.{Bool, cond, ◌&&◌, List, ℕ, ◌*◌, ◌/◌, ltb, leb, eqb, length}
use Rattle.records.specs.Bytes.{all}
use Rattle.checking.specs.Check.{check_answer}
use Rattle.checking.specs.Tree.{tree_count}
use Rattle.checking.specs.Answer.{CheckAnswer}
use Rattle.checking.specs.Answer as check
use Rattle.row_test.specs.Answer.{RowAnswer}
use Rattle.file_blocks.specs.Format.{overwrite}
use Rattle.tally.specs.declared.Tally.{Tally}
use Rattle.tally.specs.Sums.{grown, sums_fit}
use Rattle.hedge.specs.Answer.{HedgeAnswer}
use Rattle.hedge.specs.Answer.{Refused, Listed}
use Rattle.chain_rows.specs.Chain.{answer_at, passes, is_false, is_unknown, is_tested}
use Rattle.row_list.specs.Numbers.{count, numbers, bytes_of}

-- 21 "if a sum of the tally, or false and unknown together, would pass 64 bits unsigned"; else how many rows of the chain
-- passed, were false, were unknown.
unfoldable pub sums_answer : Tally → ℕ → ℕ → ℕ → HedgeAnswer
sums_answer tally passed false unknown =
    cond (sums_fit tally passed false unknown) (Listed passed false unknown) (Refused 21)

-- The rows of the chain in each class; `answers` is the row test's answer of each row.
unfoldable pub counts_answer : (ℕ → RowAnswer) → ℕ → Tally → HedgeAnswer
counts_answer answers rows tally =
    sums_answer tally (count (λ r. passes (answers r)) rows) (count (λ r. is_false (answers r)) rows)
    (count (λ r. is_unknown (answers r)) rows)

-- 13 if the row test refuses a row.
unfoldable pub rows_answer : (ℕ → RowAnswer) → ℕ → Tally → HedgeAnswer
rows_answer answers rows tally =
    cond (all (λ r. is_tested (answers r)) rows) (counts_answer answers rows tally) (Refused 13)

-- 20 "for over 1,024 rows or a list buffer with fewer places than rows"; a place is two bytes.
unfoldable pub room_ok : ℕ → ℕ → Bool
room_ok rows bytes = leb rows 1024 && leb rows (bytes / 2)

-- The answer for a screen that checking accepts; 12 "covers values that are not eight bytes per row and column".
unfoldable pub checked_answer : List ℕ → List ℕ → List ℕ → ℕ → ℕ → List ℕ → List ℕ → ℕ → Tally → HedgeAnswer
checked_answer t rs p used root values nulls bytes tally =
    cond (ltb 4096 (tree_count rs root)) (Refused 8)
    (cond (room_ok (length nulls) bytes)
    (cond (eqb (length values) (8 * length t * length nulls))
    (rows_answer (answer_at t rs p used root values nulls) (length nulls) tally)
    (Refused 12))
    (Refused 20))

abbrev pub answer_if : CheckAnswer → HedgeAnswer → HedgeAnswer
answer_if (check.Refused number) answer = Refused number
answer_if check.Accepted answer = answer

-- What the hedge list answers, for every input; the list buffer has `bytes` bytes.
unfoldable pub hedge_answer : List ℕ → List ℕ → List ℕ → ℕ → ℕ → List ℕ → List ℕ → ℕ → Tally → HedgeAnswer
hedge_answer t rs p used root values nulls bytes tally =
    answer_if (check_answer t rs p used root) (checked_answer t rs p used root values nulls bytes tally)

-- The list's bytes afterwards, which were `old`: "A refused chain adds nothing and writes nothing"; else the numbers of the
-- rows that pass stand in its first places.
abbrev pub list_if : HedgeAnswer → List ℕ → (ℕ → RowAnswer) → ℕ → List ℕ
list_if (Refused k) old answers rows = old
list_if (Listed passed false unknown) old answers rows = overwrite old 0 (bytes_of (numbers (λ r. passes (answers r)) rows))

unfoldable pub hedge_bytes : List ℕ → List ℕ → List ℕ → ℕ → ℕ → List ℕ → List ℕ → List ℕ → Tally → List ℕ
hedge_bytes t rs p used root values nulls old tally =
    list_if (hedge_answer t rs p used root values nulls (length old) tally) old
    (answer_at t rs p used root values nulls) (length nulls)

-- The answer's number: 256 done.
abbrev pub hedge_number : HedgeAnswer → ℕ
hedge_number (Refused k) = k
hedge_number (Listed passed false unknown) = 256

-- `count` afterwards, which was `old`: how many rows passed.
abbrev pub count_out : HedgeAnswer → ℕ → ℕ
count_out (Refused k) old = old
count_out (Listed passed false unknown) old = passed

-- The tally afterwards, which was `old`.
abbrev pub tally_out : HedgeAnswer → Tally → Tally
tally_out (Refused k) old = old
tally_out (Listed passed false unknown) old = grown old passed false unknown
