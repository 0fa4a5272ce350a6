-- Number 11 of a rebuilt chain, reckoned before a byte is written: from the kept nodes ns, their tree counts,
-- and how many comparisons m follow them. `len` is the length of the records' bytes, `trees` a table of tree counts.
use Rattle.std.specs.Prelude.{Bool, cond, ◌&&◌, List, ℕ, suc, ◌+◌, ◌*◌, ◌-◌, ◌/◌, leb, length, get_or}
use Rattle.checking.specs.Tree.{sum_at}
use Rattle.constraints.specs.Comparisons.{ColumnComparison}
use Rattle.merge.specs.Emit.{Outcome, Unchanged, NothingPasses, Rebuilt}
use Rattle.merge.specs.declared.answer.RewriteAnswer.{RewriteAnswer}
use Rattle.merge.specs.declared.answer.RewriteAnswer.TheVariants as answer

-- Three records a comparison, and one And less than there are conjuncts.
abbrev pub added : List ℕ → ℕ → ℕ
added ns m = 3 * m + (length ns + m - 1)

-- The used count behind the chain.
abbrev pub reckoned_used : ℕ → List ℕ → ℕ → ℕ
reckoned_used used ns m = used + added ns m

-- The chain's root: the last record added, an And or its one comparison.
abbrev pub reckoned_root : ℕ → List ℕ → ℕ → ℕ
reckoned_root used ns m = reckoned_used used ns m - 1

-- The tree of that root: the kept nodes' trees and the records added.
abbrev pub reckoned_tree : List ℕ → List ℕ → ℕ → ℕ
reckoned_tree trees ns m = sum_at (λ n. get_or trees n 0) ns + added ns m

abbrev pub room_for : ℕ → ℕ → Bool
room_for len used = leb used 4096 && leb used (len / 16)

unfoldable pub reckoned : ℕ → List ℕ → ℕ → List ℕ → ℕ → RewriteAnswer
reckoned len trees used ns m =
    cond (room_for len (reckoned_used used ns m) && leb (reckoned_tree trees ns m) 4096)
    (answer.Rewritten (reckoned_root used ns m) (reckoned_used used ns m))
    (answer.Refused 11)

-- The answer for an outcome of the merging, so reckoned.
abbrev pub reckoned_answer : ℕ → List ℕ → ℕ → Outcome ℕ → RewriteAnswer
reckoned_answer len trees used Unchanged = answer.Unchanged
reckoned_answer len trees used NothingPasses =
    cond (room_for len (suc used)) (answer.NothingPasses used (suc used)) (answer.Refused 11)
reckoned_answer len trees used (Rebuilt ns cs) = reckoned len trees used ns (length cs)
