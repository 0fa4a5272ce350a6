-- Show me a row where a text pool is lent: as checking with it, else as without; a Text column is not read, so null in the row shown.
-- t is the column table, rs the records, p the pool, text the bytes of the text pool, room the length of the lent row buffer.
use Rattle.std.specs.Prelude.{List, ℕ}
use Rattle.checking.specs.Check.{check_answer_in}
use Rattle.show_row.specs.ShowAnswer.{ShowAnswer}
use Rattle.show_row.specs.Answer.{show_checked, show_if}
use Rattle.symbol_screens.specs.Rewriting.{lent}

unfoldable pub show_answer_with : List ℕ → List ℕ → List ℕ → List ℕ → ℕ → ℕ → ℕ → ShowAnswer
show_answer_with text t rs p used root room =
    show_if (check_answer_in (lent text) t rs p used root) (show_checked t rs p used root room)
