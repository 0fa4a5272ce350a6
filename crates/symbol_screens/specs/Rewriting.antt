-- Rewriting a screen with symbols: as without, by the keys of its text pool. t is the column table, rs the records, p the
-- pool, text the bytes of the text pool.
use Rattle.std.specs.Prelude.{cond, List, ℕ, suc, ltb, length}
use Rattle.checking.specs.Check.{check_answer_in}
use Rattle.checking.specs.Tree.{tree_count}
use Rattle.merge.specs.declared.answer.RewriteAnswer.{RewriteAnswer}
use Rattle.merge.specs.declared.answer.RewriteAnswer.TheVariants as answer
use Rattle.merge.specs.Minterms.{minterms}
use Rattle.merge.specs.Classify.{read_conjuncts}
use Rattle.merge.specs.Emit.{Outcome, merge_filter_constraints}
use Rattle.merge.specs.Lines.{map_outcome}
use Rattle.merge.specs.Passes.{merge_passes}
use Rattle.merge.specs.Rewrite.{outcome_answer, rewrite_if, written_if}
use Rattle.merge.specs.Write.{outcome_bytes}
use Rattle.symbol_screens.specs.Held.{bits_of, holding}
use Rattle.symbol_screens.specs.Reading.{held_at}

-- What is lent, as checking takes it (records, Shape).
abbrev pub lent : List ℕ → ℕ
lent text = suc (length text)

-- The merging of the used records; the literals that it writes, as 64 bits.
abbrev pub outcome_with : List ℕ → List ℕ → List ℕ → ℕ → ℕ → Outcome ℕ
outcome_with text rs p used root = map_outcome bits_of (merge_filter_constraints (holding text) (read_conjuncts (held_at rs p used) root))

-- 8, 9 and the rest, of a checked screen.
abbrev pub rewrite_checked_with : List ℕ → List ℕ → List ℕ → List ℕ → ℕ → ℕ → RewriteAnswer
rewrite_checked_with text t rs p used root =
    cond (ltb 4096 (tree_count rs root)) (answer.Refused 8)
    (cond (ltb 128 (length (minterms (held_at rs p used) root))) (answer.Refused 9)
    (outcome_answer t rs used (outcome_with text rs p used root)))

-- The answer of rewriting, the records' bytes at exit, and the passes over the equalities.
unfoldable pub rewrite_answer_with : List ℕ → List ℕ → List ℕ → List ℕ → ℕ → ℕ → RewriteAnswer
rewrite_answer_with text t rs p used root =
    rewrite_if (check_answer_in (lent text) t rs p used root) (rewrite_checked_with text t rs p used root)

unfoldable pub rewrite_bytes_with : List ℕ → List ℕ → List ℕ → List ℕ → ℕ → ℕ → List ℕ
rewrite_bytes_with text t rs p used root =
    written_if (rewrite_answer_with text t rs p used root) rs (outcome_bytes t rs used (outcome_with text rs p used root))

unfoldable pub rewrite_passes_with : List ℕ → List ℕ → List ℕ → ℕ → ℕ → ℕ
rewrite_passes_with text rs p used root = merge_passes (holding text) (read_conjuncts (held_at rs p used) root)
