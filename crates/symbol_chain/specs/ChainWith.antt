-- A chain of rows under a screen with symbols (02, 2.10 and 2.14): as without (chain_rows, Chain), by the row test with the
-- text pool. t is the column table, rs the records, p the pool, text the bytes of the text pool.
use Rattle.std.specs.Prelude.{Bool, List, ℕ, eqb, get_or}
use Rattle.row_test.specs.Answer.{RowAnswer}
use Rattle.chain_rows.specs.Chain.{row_at}
use Rattle.symbol_rows.specs.RowTestWith.{row_fault_with, test_row_answer_with}

-- What testing row r answers.
unfoldable pub answer_at_with : List ℕ → List ℕ → List ℕ → List ℕ → ℕ → ℕ → List ℕ → List ℕ → ℕ → RowAnswer
answer_at_with text t rs p used root values nulls r =
    test_row_answer_with text t rs p used root (row_at t values r) (get_or nulls r 0)

-- Row r has the marks and values that its columns allow.
unfoldable pub row_fits_with : List ℕ → List ℕ → List ℕ → List ℕ → ℕ → Bool
row_fits_with text t values nulls r = eqb (row_fault_with text t (row_at t values r) (get_or nulls r 0)) 0
