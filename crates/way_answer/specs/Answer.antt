-- The line in the way (02, 2.9): as checking; 8, 9 and 17 in this order; else whether a row passes already, and if none does the
-- first line whose removal makes some row pass. t is the column table, rs the records, p the pool.
use Rattle.std.specs.Prelude.{cond, List, ℕ, ltb, length}
use Rattle.checking.specs.Check.{check_answer}
use Rattle.checking.specs.Tree.{tree_count}
use Rattle.checking.specs.Answer.{CheckAnswer}
use Rattle.checking.specs.Answer as check
use Rattle.truth.specs.FromBytes.{aexpr_at}
use Rattle.merge.specs.Minterms.{minterms}
use Rattle.merge.specs.Plain.{plain_screen}
use Rattle.judge_lines.specs.WayAnswer.{WayAnswer}
use Rattle.judge_lines.specs.WayAnswer as way
use Rattle.judge_lines.specs.Answer.{line_answer}

-- 8, 9, 17 and the rest, of a checked screen.
abbrev pub way_checked : List ℕ → List ℕ → List ℕ → ℕ → ℕ → WayAnswer
way_checked t rs p used root =
    cond (ltb 4096 (tree_count rs root)) (way.Refused 8)
    (cond (ltb 128 (length (minterms (aexpr_at rs p used) root))) (way.Refused 9)
    (cond (plain_screen t (aexpr_at rs p used) root)
    (line_answer (aexpr_at rs p used) (minterms (aexpr_at rs p used) root)) (way.Refused 17)))

abbrev pub way_if : CheckAnswer → WayAnswer → WayAnswer
way_if (check.Refused k) a = way.Refused k
way_if check.Accepted a = a

unfoldable pub way_answer : List ℕ → List ℕ → List ℕ → ℕ → ℕ → WayAnswer
way_answer t rs p used root = way_if (check_answer t rs p used root) (way_checked t rs p used root)
