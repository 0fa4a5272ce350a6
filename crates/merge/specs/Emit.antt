-- Stages 3 and 4, resolve and emit: `collect_column_comparisons`, the kept equalities, and
-- `merge_filter_constraints`.
use Rattle.std.specs.Prelude.{Bool, true, false, ◌||◌, cond, List, [], ◌∷◌, ◌++◌, ℕ, ltb, length}
use Rattle.std.proofs.Math.Option.{Option, none, some}
use Rattle.constraints.specs.Scalars.{Scalars}
use Rattle.constraints.specs.Column.{ColumnConstraints}
use Rattle.constraints.specs.Resolve.{fixed_value, resolve_deferred}
use Rattle.constraints.specs.Comparisons.{ColumnComparison, collect_column_comparisons}
use Rattle.merge.specs.Classify.{Conjunct}
use Rattle.merge.specs.Collect.{Table, Collected, begin, collect}
use Rattle.merge.specs.Propagate.{propagate, propagate_emitted}

-- What the merging decides: nothing changes; no row can pass; or a chain of kept nodes and comparisons (column,
-- comparison).
pub data Outcome (Val : Type 0) : Type 0 where
  Unchanged : Outcome Val
  NothingPasses : Outcome Val
  Rebuilt : List ℕ → List (ℕ × ColumnComparison Val) → Outcome Val

abbrev pub of_column : {Val : Type 0} → ℕ → List (ColumnComparison Val) → List (ℕ × ColumnComparison Val)
of_column c [] = []
of_column c (x ∷ l) = (c, x) ∷ of_column c l

-- ---- An equality whose left column has a fixed value is dropped; by then its right column has it too.
abbrev pub is_fixed : {Val : Type 0} → Option Val → Bool
is_fixed none = false
is_fixed (some v) = true

-- Whether a column among those given is impossible.
abbrev pub any_unsat : {Val : Type 0} → List ℕ → Table Val → Bool
any_unsat [] t = false
any_unsat (c ∷ cs) t = (t c).unsat || any_unsat cs t

module _ {K Val : Type 0} (S : Scalars K Val) where
  -- The comparisons of all columns, in the order in which the columns entered.
  abbrev pub comparisons : List ℕ → Table Val → List (ℕ × ColumnComparison Val)
  comparisons [] t = []
  comparisons (c ∷ cs) t = of_column c (collect_column_comparisons S (t c)) ++ comparisons cs t

  abbrev pub kept_equalities : Table Val → List (ℕ × ℕ × ℕ) → List ℕ
  kept_equalities t [] = []
  kept_equalities t (e ∷ es) =
      cond (is_fixed (fixed_value S (t e.0))) (kept_equalities t es) (e.2 ∷ kept_equalities t es)

  abbrev pub dropped_equality : Table Val → List (ℕ × ℕ × ℕ) → Bool
  dropped_equality t [] = false
  dropped_equality t (e ∷ es) = is_fixed (fixed_value S (t e.0)) || dropped_equality t es

  -- The table after the passes, and with every column resolved.
  abbrev pub propagated : Collected Val → Table Val
  propagated s = propagate S (length s.order) s.edges s.constraints

  abbrev pub resolved : Collected Val → Table Val
  resolved s c = resolve_deferred S (propagated s c)

  -- Something tightened, a negation was read as bounds, something was propagated, or an equality was dropped; else the
  -- screen is left alone.
  abbrev pub rewrites : Collected Val → Bool
  rewrites s =
      ltb (length (comparisons s.order (resolved s))) s.bound_conjuncts
      || (s.normalized
      || (propagate_emitted S (length s.order) s.edges s.constraints || dropped_equality (propagated s) s.edges))

  -- Opaque conjuncts, kept equalities, comparisons by column.
  abbrev pub rebuilt : Collected Val → Outcome Val
  rebuilt s = Rebuilt (s.opaque ++ kept_equalities (propagated s) s.edges) (comparisons s.order (resolved s))

  abbrev pub conclude : Collected Val → Outcome Val
  conclude s =
      cond (s.unsat || any_unsat s.order (resolved s)) NothingPasses (cond (rewrites s) (rebuilt s) Unchanged)

  -- `merge_filter_constraints`, of what was read of the conjuncts.
  abbrev pub merge_filter_constraints : List (Conjunct Val) → Outcome Val
  merge_filter_constraints l = conclude (collect S l begin)
