-- Show me a row (02, 2.7): as checking; 8, 9, 17 and 14 in this order; else whether some row passes, and the row shown. t is
-- the column table, rs the records, p the pool, room the length of the lent row buffer.
use Rattle.std.specs.Prelude.{cond, List, map, ℕ, ◌/◌, ltb, length}
use Rattle.checking.specs.Check.{check_answer}
use Rattle.checking.specs.Tree.{tree_count}
use Rattle.checking.specs.Answer.{CheckAnswer}
use Rattle.checking.specs.Answer as check
use Rattle.truth.specs.AExpr.{AExpr}
use Rattle.truth.specs.FromBytes.{aexpr_at}
use Rattle.constraints.specs.Payload.{payload}
use Rattle.merge.specs.Minterms.{minterms}
use Rattle.merge.specs.Classify.{classify}
use Rattle.merge.specs.Collect.{Collected, begin, collect}
use Rattle.merge.specs.Plain.{plain_screen}
use Rattle.masks.specs.Masks.{mask_to}
use Rattle.judge_lines.specs.Lines.{nothing_passes}
use Rattle.row_shown.specs.Shown.{null_shown, place_shown, places_bytes}
use Rattle.show_row.specs.ShowAnswer.{ShowAnswer}
use Rattle.show_row.specs.ShowAnswer as show

-- What the lines say of the columns.
abbrev pub collected_of : (ℕ → AExpr ℕ) → List ℕ → Collected ℕ
collected_of R nodes = collect payload (map (classify R) nodes) begin

-- The null marks and the bytes of the row shown, of a screen with so many columns.
unfoldable pub shown_nulls : (ℕ → AExpr ℕ) → List ℕ → ℕ → ℕ
shown_nulls R nodes columns = mask_to (null_shown (collected_of R nodes)) columns

unfoldable pub shown_bytes : (ℕ → AExpr ℕ) → List ℕ → ℕ → List ℕ
shown_bytes R nodes columns = places_bytes (place_shown (collected_of R nodes)) columns

-- Of the lines of a plain screen.
abbrev pub row_answer : (ℕ → AExpr ℕ) → List ℕ → ℕ → ShowAnswer
row_answer R nodes columns = cond (nothing_passes R nodes) show.NoRow (show.Row (shown_nulls R nodes columns))

-- 8, 9, 17, 14 and the rest, of a checked screen.
abbrev pub show_checked : List ℕ → List ℕ → List ℕ → ℕ → ℕ → ℕ → ShowAnswer
show_checked t rs p used root room =
    cond (ltb 4096 (tree_count rs root)) (show.Refused 8)
    (cond (ltb 128 (length (minterms (aexpr_at rs p used) root))) (show.Refused 9)
    (cond (plain_screen t (aexpr_at rs p used) root)
    (cond (ltb (room / 16) (length t)) (show.Refused 14)
    (row_answer (aexpr_at rs p used) (minterms (aexpr_at rs p used) root) (length t))) (show.Refused 17)))

abbrev pub show_if : CheckAnswer → ShowAnswer → ShowAnswer
show_if (check.Refused k) a = show.Refused k
show_if check.Accepted a = a

unfoldable pub show_answer : List ℕ → List ℕ → List ℕ → ℕ → ℕ → ℕ → ShowAnswer
show_answer t rs p used root room = show_if (check_answer t rs p used root) (show_checked t rs p used root room)
