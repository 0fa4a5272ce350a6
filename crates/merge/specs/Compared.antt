-- A rebuilt chain always has a comparison (2.11), so its root is a record that rewriting added.
use Rattle.std.specs.Prelude.{◌≡◌, false, List, map, ℕ, ◌≤◌, ◌<◌}
use Rattle.truth.specs.AExpr.{AExpr}
use Rattle.constraints.specs.Scalars.{Scalars}
use Rattle.constraints.specs.Comparisons.{ColumnComparison}
use Rattle.constraints.specs.Values.{is_empty}
use Rattle.merge.specs.declared.answer.RewriteAnswer.TheVariants as answer
use Rattle.merge.specs.Classify.{classify}
use Rattle.merge.specs.Emit.{Rebuilt, merge_filter_constraints}
use Rattle.merge.specs.Rewrite.{rewrite_answer}

-- Over any values, whatever the records and whichever of them are the conjuncts.
abbrev pub RebuiltCompares : {K Val : Type 0} → Scalars K Val → Type 0
RebuiltCompares {K} {Val} S =
    (R : ℕ → AExpr Val) (nodes ns : List ℕ) (cs : List (ℕ × ColumnComparison Val)) →
    merge_filter_constraints S (map (classify R) nodes) ≡ Rebuilt ns cs → is_empty cs ≡ false

-- The root of a rewritten screen is one of the records added; the old root is one of those sent.
abbrev pub RewrittenRootIsNew : Type 0
RewrittenRootIsNew =
    (t rs p : List ℕ) (used root new_root new_used : ℕ) →
    rewrite_answer t rs p used root ≡ answer.Rewritten new_root new_used
    → (root < used) × (used ≤ new_root) × (new_root < new_used)
