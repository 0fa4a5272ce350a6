-- Stage 2, `propagate_equalities`: passes over all edges in order, until one changes nothing.
use Rattle.std.specs.Prelude.{Bool, false, not, ◌&&◌, ◌||◌, cond, List, [], ◌∷◌, ℕ, zero, suc, eqb}
use Rattle.constraints.specs.Scalars.{Scalars}
use Rattle.constraints.specs.Column.{ColumnConstraints, merge_from, merge_emitted, merge_any}
use Rattle.merge.specs.Collect.{Table, update}

module _ {K Val : Type 0} (S : Scalars K Val) where
  -- The right column takes in what the left says, then the left what the right now says.
  abbrev pub merged_right : ℕ → ℕ → Table Val → ColumnConstraints Val
  merged_right a b t = merge_from S (t b) (t a)

  abbrev pub merged_left : ℕ → ℕ → Table Val → ColumnConstraints Val
  merged_left a b t = merge_from S (t a) (merged_right a b t)

  -- An edge from a column to itself changes nothing.
  abbrev pub merge_edge : ℕ → ℕ → Table Val → Table Val
  merge_edge a b t = cond (eqb a b) t (update (update t b (merged_right a b t)) a (merged_left a b t))

  abbrev pub edge_any : ℕ → ℕ → Table Val → Bool
  edge_any a b t = not (eqb a b) && (merge_any S (t b) (t a) || merge_any S (t a) (merged_right a b t))

  abbrev pub edge_emitted : ℕ → ℕ → Table Val → Bool
  edge_emitted a b t = not (eqb a b) && (merge_emitted S (t b) (t a) || merge_emitted S (t a) (merged_right a b t))

  -- One pass over all edges; whether it changed anything, and anything that is written out.
  abbrev pub pass : List (ℕ × ℕ × ℕ) → Table Val → Table Val
  pass [] t = t
  pass (e ∷ es) t = pass es (merge_edge e.0 e.1 t)

  abbrev pub pass_any : List (ℕ × ℕ × ℕ) → Table Val → Bool
  pass_any [] t = false
  pass_any (e ∷ es) t = edge_any e.0 e.1 t || pass_any es (merge_edge e.0 e.1 t)

  abbrev pub pass_emitted : List (ℕ × ℕ × ℕ) → Table Val → Bool
  pass_emitted [] t = false
  pass_emitted (e ∷ es) t = edge_emitted e.0 e.1 t || pass_emitted es (merge_edge e.0 e.1 t)

  -- Passes up to and with the first that changes nothing. The number given is only for the definition to end: with as
  -- many as columns it is never used up (`passes-end`).
  abbrev pub propagate : ℕ → List (ℕ × ℕ × ℕ) → Table Val → Table Val
  propagate zero es t = t
  propagate (suc n) es t = cond (pass_any es t) (propagate n es (pass es t)) (pass es t)

  -- Whether anything that is written out was propagated.
  abbrev pub propagate_emitted : ℕ → List (ℕ × ℕ × ℕ) → Table Val → Bool
  propagate_emitted zero es t = false
  propagate_emitted (suc n) es t = pass_emitted es t || cond (pass_any es t) (propagate_emitted n es (pass es t)) false
