-- Columns read of a screen with symbols: as checking with the text pool says, else as without.
use Rattle.std.specs.Prelude.{List, ℕ}
use Rattle.checking.specs.Check.{check_answer_in}
use Rattle.checking.specs.Columns.{columns_word, columns_if}
use Rattle.checking.specs.ReadAnswer.{ColumnsAnswer}

unfoldable pub columns_answer_in : ℕ → List ℕ → List ℕ → List ℕ → ℕ → ℕ → ColumnsAnswer
columns_answer_in lent_text t rs p used root = columns_if (check_answer_in lent_text t rs p used root) (columns_word rs root)
