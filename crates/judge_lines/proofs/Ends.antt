-- What the merging's state says of whether nothing passes.
use mathlib.Core.Path.{◌≡◌, refl, sym, ◌∙◌, ap}
use mathlib.Core.Bool.{Bool, true, false, cond}
use mathlib.Core.List.{List}
use Prim.Native.Nat.{ℕ}
use Rattle.truth.specs.AExpr.{AExpr}
use Rattle.constraints.specs.Lined.{Lined, lined}
use Rattle.constraints.specs.Scalars.{Scalars}
use Rattle.merge.specs.Collect.{Collected}
use Rattle.merge.specs.Emit.{Outcome, Unchanged, NothingPasses, Rebuilt, rewrites, rebuilt, conclude}
use Rattle.read_operands.specs.Walk.{first_of}
use Rattle.column_table.specs.State.{collect_to}
use Rattle.filter_constraint.proofs.Concluding.{without_lines, outcome_is}
use Rattle.contradiction.specs.Labels.{dead}
use Rattle.judge_lines.specs.Lines.{is_nothing, nothing_passes}

module _ {K Val : Type 0} (S : Scalars K Val) where
  pub nothing-dead : (s : Collected Val) → is_nothing (conclude S s) ≡ dead S s
  nothing-dead s = go (dead S s) (rewrites S s)
    where
      go : (b d : Bool) → is_nothing (cond b NothingPasses (cond d (rebuilt S s) Unchanged)) ≡ b
      go true d = refl
      go false true = refl
      go false false = refl

-- Lines change nothing of it.
nothing-lined : (o : Outcome Lined) → is_nothing (without_lines o) ≡ is_nothing o
nothing-lined Unchanged = refl
nothing-lined NothingPasses = refl
nothing-lined (Rebuilt ns cs) = refl

pub nothing-contradict : (R : ℕ → AExpr ℕ) (nodes : List ℕ) (n : ℕ) (b : Bool) → b ≡ dead lined (collect_to R nodes n)
    → b ≡ nothing_passes R (first_of nodes n)
nothing-contradict R nodes n b e =
    e
    ∙ sym (nothing-dead lined (collect_to R nodes n))
    ∙ sym (nothing-lined (conclude lined (collect_to R nodes n)))
    ∙ sym (ap is_nothing (outcome_is R nodes n))
