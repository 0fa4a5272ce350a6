-- The hedge list of a screen with symbols (02, 2.10 and 2.14): as without (hedge, Hedge), each row by the row test with the text
-- pool. Refusals in the same order: 1 to 7 as checking, 8, 20, 12, 13, 21.
use Rattle.std.specs.Prelude.{cond, List, ℕ, ◌*◌, ltb, eqb, length}
use Rattle.checking.specs.Check.{check_answer_in}
use Rattle.checking.specs.Tree.{tree_count}
use Rattle.tally.specs.declared.Tally.{Tally}
use Rattle.hedge.specs.Answer.{HedgeAnswer}
use Rattle.hedge.specs.Answer.{Refused}
use Rattle.hedge.specs.Hedge.{rows_answer, room_ok, answer_if, list_if}
use Rattle.symbol_screens.specs.Rewriting.{lent}
use Rattle.symbol_chain.specs.ChainWith.{answer_at_with}

-- The answer for a screen that checking accepts.
unfoldable pub checked_hedge_with : List ℕ → List ℕ → List ℕ → List ℕ → ℕ → ℕ → List ℕ → List ℕ → ℕ → Tally → HedgeAnswer
checked_hedge_with text t rs p used root values nulls bytes tally =
    cond (ltb 4096 (tree_count rs root)) (Refused 8)
    (cond (room_ok (length nulls) bytes)
    (cond (eqb (length values) (8 * length t * length nulls))
    (rows_answer (answer_at_with text t rs p used root values nulls) (length nulls) tally)
    (Refused 12))
    (Refused 20))

-- What the hedge list answers, for every input; the list buffer has `bytes` bytes.
unfoldable pub hedge_answer_with : List ℕ → List ℕ → List ℕ → List ℕ → ℕ → ℕ → List ℕ → List ℕ → ℕ → Tally → HedgeAnswer
hedge_answer_with text t rs p used root values nulls bytes tally =
    answer_if (check_answer_in (lent text) t rs p used root) (checked_hedge_with text t rs p used root values nulls bytes tally)

-- The list's bytes afterwards, which were `old`.
unfoldable pub hedge_bytes_with : List ℕ → List ℕ → List ℕ → List ℕ → ℕ → ℕ → List ℕ → List ℕ → List ℕ → Tally → List ℕ
hedge_bytes_with text t rs p used root values nulls old tally =
    list_if (hedge_answer_with text t rs p used root values nulls (length old) tally) old
    (answer_at_with text t rs p used root values nulls) (length nulls)
