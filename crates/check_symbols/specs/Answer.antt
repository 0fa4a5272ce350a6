-- The check of a proposed row where a text pool is lent: as checking with it; then 8, 9, 17 and 18; else whether the row passes, by the
-- keys of the text pool. t is the column table, rs the records, p the pool, text the bytes of the text pool, row and nulls the
-- places and null marks proposed.
use Rattle.std.specs.Prelude.{List, ℕ, length}
use Rattle.places.specs.Places.{places_row}
use Rattle.check_row.specs.Answer.{refused_or, row_answer}
use Rattle.plain_symbols.specs.Refusal.{plain_refusal_with}
use Rattle.symbol_screens.specs.Rows.{passes_with}

unfoldable pub check_row_answer_with : List ℕ → List ℕ → List ℕ → List ℕ → ℕ → ℕ → List ℕ → ℕ → ℕ
check_row_answer_with text t rs p used root row nulls =
    refused_or (plain_refusal_with text t rs p used root)
    (row_answer (length t) row nulls (passes_with text rs p used root (places_row row nulls)))
