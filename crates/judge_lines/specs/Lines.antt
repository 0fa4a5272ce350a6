-- The lines of a screen, that is its conjuncts counted from 0, with one left out.
use Rattle.std.specs.Prelude.{Bool, true, false, cond, List, [], ◌∷◌, map, ℕ, zero, suc, ltb}
use Rattle.truth.specs.AExpr.{AExpr}
use Rattle.constraints.specs.Payload.{payload}
use Rattle.merge.specs.Classify.{classify}
use Rattle.merge.specs.Emit.{Outcome, Unchanged, NothingPasses, Rebuilt, merge_filter_constraints}

abbrev pub without : {A : Type 0} → ℕ → List A → List A
without zero [] = []
without zero (x ∷ l) = l
without (suc i) [] = []
without (suc i) (x ∷ l) = x ∷ without i l

-- Whether the merging says that nothing passes. Of plain lines it says so exactly if no row passes.
abbrev pub is_nothing : {Val : Type 0} → Outcome Val → Bool
is_nothing Unchanged = false
is_nothing NothingPasses = true
is_nothing (Rebuilt ns cs) = false

abbrev pub nothing_passes : (ℕ → AExpr ℕ) → List ℕ → Bool
nothing_passes R nodes = is_nothing (merge_filter_constraints payload (map (classify R) nodes))

-- The first number below n of which f holds; n if it holds of none.
unfoldable pub first_true : (ℕ → Bool) → ℕ → ℕ
first_true f zero = zero
first_true f (suc n) = cond (ltb (first_true f n) n) (first_true f n) (cond (f n) n (suc n))
