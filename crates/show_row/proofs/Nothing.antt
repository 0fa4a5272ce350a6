-- What the ends of the merging's loops say of whether nothing passes.
use mathlib.Core.Path.{◌≡◌, sym, ◌∙◌, ap, subst}
use mathlib.Core.Bool.{Bool, true, false, ◌||◌}
use mathlib.Core.List.{List}
use Prim.Native.Nat.{ℕ}
use lib.ListN.{length}
use Rattle.truth.specs.AExpr.{AExpr}
use Rattle.constraints.specs.Lined.{lined}
use Rattle.column_constraints.specs.Abstraction.{Conjuncts}
use Rattle.column_constraints.specs.declared.column.ColumnConstraints.{ColumnConstraints}
use Rattle.merge.specs.Propagate.{propagate}
use Rattle.merge.specs.Emit.{any_unsat, propagated, resolved}
use Rattle.read_operands.specs.Walk.{first_of}
use Rattle.read_operands.proofs.Walks.{first-length}
use Rattle.column_table.specs.State.{ColumnTable, Shows, edges_of, Collects, collect_to, Resolved}
use Rattle.filter_constraint.proofs.Concluding.{conclude-stopped}
use Rattle.judge_lines.specs.Lines.{is_nothing, nothing_passes}
use Rattle.judge_lines.proofs.Ends.{nothing-contradict}

-- Reading stopped at an impossible line.
pub nothing-stopped : (R : ℕ → AExpr ℕ) (nodes : List ℕ) (n : ℕ) (b : Bool) → b ≡ (collect_to R nodes n).unsat → b ≡ true
    → true ≡ nothing_passes R (first_of nodes n)
nothing-stopped R nodes n b e h = sym (ap is_nothing (conclude-stopped R nodes n b e h))

module _ (R : ℕ → AExpr ℕ) (nodes : List ℕ) (n : ℕ) (t : Conjuncts) (table₁ table₂ : List ColumnConstraints)
    (ms₁ ms₂ : List ℕ) (seen : List Bool) (order : List ℕ) (columns : ℕ) (kept₁ : List ℕ) (keeps₁ : ℕ)
    (lefts rights equals : List ℕ) (edges bounds : ℕ) (normalized stop : Bool)
    (C : Collects t table₁ ms₁ seen order columns kept₁ keeps₁ lefts rights equals edges bounds normalized stop
    (collect_to R nodes n))
    (live : stop ≡ false) (unsat : Bool) (total : ℕ)
    (resolving : (T : ColumnTable) (equals : List ℕ) → Shows t table₁ ms₁ T
    → Resolved t table₂ ms₂ (first_of order columns) false unsat total
    (propagate lined columns (edges_of lefts rights equals edges) T)) where
  columns-are : columns ≡ length (collect_to R nodes n).order
  columns-are = sym (first-length order columns) ∙ ap length C.entered.listed

  pub resolved-all : Resolved t table₂ ms₂ (first_of order columns) false unsat total (propagated lined (collect_to R nodes n))
  resolved-all =
      subst (Resolved t table₂ ms₂ (first_of order columns) false unsat total)
      (ap (λ k. propagate lined k (edges_of lefts rights equals edges) (collect_to R nodes n).constraints) columns-are
      ∙ ap (λ es. propagate lined (length (collect_to R nodes n).order) es (collect_to R nodes n).constraints)
      C.linked.listed) (resolving (collect_to R nodes n).constraints equals C.shows)

  -- The columns were resolved, and one is impossible or none is.
  pub nothing-resolved : unsat ≡ nothing_passes R (first_of nodes n)
  nothing-resolved =
      nothing-contradict R nodes n unsat
      (resolved-all.stops
      ∙ ap (λ l. any_unsat l (resolved lined (collect_to R nodes n))) C.entered.listed
      ∙ ap (λ b. b || any_unsat (collect_to R nodes n).order (resolved lined (collect_to R nodes n)))
      (sym live ∙ C.stops))
