-- Rewriting a screen, 01, 'Answers by operation': as checking; 8, 9, 11 in this order; else unchanged, nothing passes,
-- or rewritten. (10 is no refusal: a rebuilt chain always has a conjunct, `RebuiltCompares` in Compared.) t is the column table, rs the records, p the pool. A refusal and "unchanged" write nothing.
use Rattle.std.specs.Prelude.{Bool, cond, ◌&&◌, List, ◌++◌, ℕ, suc, ◌/◌, ltb, leb, length}
use Rattle.checking.specs.Check.{check_answer}
use Rattle.checking.specs.Tree.{tree_count}
use Rattle.checking.specs.Answer.{CheckAnswer}
use Rattle.checking.specs.Answer as check
use Rattle.truth.specs.FromBytes.{aexpr_at}
use Rattle.constraints.specs.Payload.{payload}
use Rattle.merge.specs.declared.answer.RewriteAnswer.{RewriteAnswer}
use Rattle.merge.specs.declared.answer.RewriteAnswer.TheVariants as answer
use Rattle.merge.specs.Minterms.{minterms}
use Rattle.merge.specs.Classify.{read_conjuncts}
use Rattle.constraints.specs.Comparisons.{ColumnComparison}
use Rattle.merge.specs.Emit.{Outcome, Unchanged, NothingPasses, Rebuilt}
use Rattle.merge.specs.Emit.{merge_filter_constraints}
use Rattle.merge.specs.Rebuild.{comparison_nodes, comparisons_end, fold_root, fold_used}
use Rattle.merge.specs.Write.{outcome_bytes}

-- The merging, of the used records' bytes.
abbrev pub outcome_of : List ℕ → List ℕ → ℕ → ℕ → Outcome ℕ
outcome_of rs p used root = merge_filter_constraints payload (read_conjuncts (aexpr_at rs p used) root)

-- The conjuncts of the rebuilt chain, its root, and the used count behind it.
abbrev pub chain_nodes : ℕ → List ℕ → List (ℕ × ColumnComparison ℕ) → List ℕ
chain_nodes used ns cs = ns ++ comparison_nodes used cs

abbrev pub chain_root : ℕ → List ℕ → List (ℕ × ColumnComparison ℕ) → ℕ
chain_root used ns cs = fold_root (comparisons_end used cs) (chain_nodes used ns cs)

abbrev pub chain_used : ℕ → List ℕ → List (ℕ × ColumnComparison ℕ) → ℕ
chain_used used ns cs = fold_used (comparisons_end used cs) (chain_nodes used ns cs)

-- 11: so many used records pass neither 4,096 nor the whole records lent.
abbrev pub has_room : List ℕ → ℕ → Bool
has_room rs used = leb used 4096 && leb used (length rs / 16)

-- 11: nor has the rebuilt root's tree, counted as for 8, over 4,096 records.
abbrev pub chain_fits : List ℕ → List ℕ → ℕ → List ℕ → List (ℕ × ColumnComparison ℕ) → Bool
chain_fits t rs used ns cs =
    has_room rs (chain_used used ns cs)
    && leb (tree_count (outcome_bytes t rs used (Rebuilt ns cs)) (chain_root used ns cs)) 4096

-- 11 and the answer for an outcome of the merging.
abbrev pub outcome_answer : List ℕ → List ℕ → ℕ → Outcome ℕ → RewriteAnswer
outcome_answer t rs used Unchanged = answer.Unchanged
outcome_answer t rs used NothingPasses =
    cond (has_room rs (suc used)) (answer.NothingPasses used (suc used)) (answer.Refused 11)
outcome_answer t rs used (Rebuilt ns cs) =
    cond (chain_fits t rs used ns cs) (answer.Rewritten (chain_root used ns cs) (chain_used used ns cs)) (answer.Refused 11)

-- 8, 9 and the rest, of a checked screen.
abbrev pub rewrite_checked : List ℕ → List ℕ → List ℕ → ℕ → ℕ → RewriteAnswer
rewrite_checked t rs p used root =
    cond (ltb 4096 (tree_count rs root)) (answer.Refused 8)
    (cond (ltb 128 (length (minterms (aexpr_at rs p used) root))) (answer.Refused 9)
    (outcome_answer t rs used (outcome_of rs p used root)))

abbrev pub rewrite_if : CheckAnswer → RewriteAnswer → RewriteAnswer
rewrite_if (check.Refused k) a = answer.Refused k
rewrite_if check.Accepted a = a

-- The answer of rewriting.
unfoldable pub rewrite_answer : List ℕ → List ℕ → List ℕ → ℕ → ℕ → RewriteAnswer
rewrite_answer t rs p used root = rewrite_if (check_answer t rs p used root) (rewrite_checked t rs p used root)

abbrev pub written_if : RewriteAnswer → List ℕ → List ℕ → List ℕ
written_if (answer.Refused k) rs written = rs
written_if answer.Unchanged rs written = rs
written_if (answer.NothingPasses root used) rs written = written
written_if (answer.Rewritten root used) rs written = written

-- The records' bytes at exit. Behind the used count answered they keep their bytes.
unfoldable pub rewrite_bytes : List ℕ → List ℕ → List ℕ → ℕ → ℕ → List ℕ
rewrite_bytes t rs p used root =
    written_if (rewrite_answer t rs p used root) rs (outcome_bytes t rs used (outcome_of rs p used root))
