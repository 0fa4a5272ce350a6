-- The refusals of the calls that go through a plain screen, where a text pool is lent: as checking with it; then 8, 9 and 17.
-- Behind checking nothing asks for the text: a plain screen reads Int and Day columns only. t is the column table, rs the
-- records, p the pool, text the bytes of the text pool.
use Rattle.std.specs.Prelude.{List, ℕ}
use Rattle.std.proofs.Math.Option.{Option, none, some}
use Rattle.checking.specs.Check.{check_answer_in}
use Rattle.plain_lines.specs.Refusal.{checked_refusal, refusal_if}
use Rattle.symbol_screens.specs.Rewriting.{lent}

-- The number with which the screen is refused, if it is.
unfoldable pub plain_refusal_with : List ℕ → List ℕ → List ℕ → List ℕ → ℕ → ℕ → Option ℕ
plain_refusal_with text t rs p used root =
    refusal_if (check_answer_in (lent text) t rs p used root) (checked_refusal t rs p used root)

-- No refusal has the number 0.
abbrev pub refusal_number : Option ℕ → ℕ
refusal_number none = 0
refusal_number (some k) = k
