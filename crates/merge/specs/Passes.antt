-- The number of passes over the equalities (02, 2.13), that they end, and the bound on them (the statements are proved in
-- proofs/PassesEnd.antt).
use Rattle.std.specs.Prelude.{◌≡◌, Bool, false, cond, List, [], ◌∷◌, ℕ, zero, suc, ◌≤◌, length}
use Rattle.truth.specs.FromBytes.{aexpr_at}
use Rattle.constraints.specs.Payload.{payload}
use Rattle.constraints.specs.Scalars.{Scalars}
use Rattle.constraints.specs.Values.{is_empty}
use Rattle.merge.specs.Classify.{Conjunct, Bounds, Normalized, Equality, Recorded, NonNullPair, Opaque}
use Rattle.merge.specs.Classify.{read_conjuncts}
use Rattle.merge.specs.Collect.{Table, Collected, enter, begin, collect}
use Rattle.merge.specs.Propagate.{pass, pass_any}
use Rattle.merge.specs.Emit.{propagated}

-- The equalities among conjuncts: left column, right column, node.
abbrev pub equalities : {Val : Type 0} → List (Conjunct Val) → List (ℕ × ℕ × ℕ)
equalities [] = []
equalities (Bounds c l ∷ xs) = equalities xs
equalities (Normalized c l ∷ xs) = equalities xs
equalities (Equality a b n ∷ xs) = (a, b, n) ∷ equalities xs
equalities (Recorded stops n c l ∷ xs) = equalities xs
equalities (NonNullPair n a b ∷ xs) = equalities xs
equalities (Opaque n ∷ xs) = equalities xs

-- The different columns in the equalities, each once.
abbrev pub edge_columns : List (ℕ × ℕ × ℕ) → List ℕ
edge_columns [] = []
edge_columns (e ∷ es) = enter e.1 (enter e.0 (edge_columns es))

module _ {K Val : Type 0} (S : Scalars K Val) where
  -- So many passes, quiet or not.
  abbrev pub pass_times : ℕ → List (ℕ × ℕ × ℕ) → Table Val → Table Val
  pass_times zero es t = t
  pass_times (suc n) es t = pass_times n es (pass S es t)

  -- How many passes are made with at most n, the quiet one counted.
  abbrev pub pass_count : ℕ → List (ℕ × ℕ × ℕ) → Table Val → ℕ
  pass_count zero es t = 0
  pass_count (suc n) es t = suc (cond (pass_any S es t) (pass_count n es (pass S es t)) 0)

  -- The passes made, at most n: none without equalities.
  abbrev pub passes_made : ℕ → List (ℕ × ℕ × ℕ) → Table Val → ℕ
  passes_made n es t = cond (is_empty es) 0 (pass_count n es t)

  -- The passes that the merging of these conjuncts makes: none where their reading stopped at an impossible one.
  abbrev pub passes_of : Collected Val → ℕ
  passes_of s = cond s.unsat 0 (passes_made (length s.order) s.edges s.constraints)

  abbrev pub merge_passes : List (Conjunct Val) → ℕ
  merge_passes l = passes_of (collect S l begin)

  -- The last pass that the definition makes changed nothing.
  abbrev pub LastPassQuiet : Collected Val → Type 0
  LastPassQuiet s =
      (k : ℕ) × (propagated S s ≡ pass S s.edges (pass_times k s.edges s.constraints))
      × (pass_any S s.edges (pass_times k s.edges s.constraints) ≡ false)

  -- Whatever is read of a screen's conjuncts.
  abbrev pub PassesEnd : Type 0
  PassesEnd = (l : List (Conjunct Val)) → LastPassQuiet (collect S l begin)

  -- There are at most as many passes, the quiet one counted, as different columns in the equalities.
  abbrev pub PassesAtMostColumns : Type 0
  PassesAtMostColumns =
      (n : ℕ) (es : List (ℕ × ℕ × ℕ)) (t : Table Val) → is_empty es ≡ false →
      pass_count n es t ≤ length (edge_columns es)

  -- So many the merging of any conjuncts makes at most.
  abbrev pub MergePassesAtMostColumns : Type 0
  MergePassesAtMostColumns = (l : List (Conjunct Val)) → merge_passes l ≤ length (edge_columns (equalities l))

-- ---- Of a screen: rs the records, p the pool.
-- The equalities among its conjuncts.
abbrev pub screen_equalities : List ℕ → List ℕ → ℕ → ℕ → List (ℕ × ℕ × ℕ)
screen_equalities rs p used root = equalities (read_conjuncts (aexpr_at rs p used) root)

-- The passes over them that rewriting makes.
unfoldable pub rewrite_passes : List ℕ → List ℕ → ℕ → ℕ → ℕ
rewrite_passes rs p used root = merge_passes payload (read_conjuncts (aexpr_at rs p used) root)

-- They are at most as many as there are different columns in its equalities.
abbrev pub RewritePassesAtMostColumns : Type 0
RewritePassesAtMostColumns =
    (rs p : List ℕ) (used root : ℕ) → rewrite_passes rs p used root ≤
    length (edge_columns (screen_equalities rs p used root))
