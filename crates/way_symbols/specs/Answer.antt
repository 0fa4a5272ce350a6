-- The line in the way where a text pool is lent: as checking with it, else as without. t is the column table, rs the records, p
-- the pool, text the bytes of the text pool.
use Rattle.std.specs.Prelude.{List, ℕ}
use Rattle.checking.specs.Check.{check_answer_in}
use Rattle.judge_lines.specs.WayAnswer.{WayAnswer}
use Rattle.way_answer.specs.Answer.{way_checked, way_if}
use Rattle.symbol_screens.specs.Rewriting.{lent}

unfoldable pub way_answer_with : List ℕ → List ℕ → List ℕ → List ℕ → ℕ → ℕ → WayAnswer
way_answer_with text t rs p used root = way_if (check_answer_in (lent text) t rs p used root) (way_checked t rs p used root)
