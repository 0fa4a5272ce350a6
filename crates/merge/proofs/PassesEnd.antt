-- The passes over the equalities end, after at most as many as there are different columns in them.
use mathlib.Core.Path.{◌≡◌, refl, sym, ◌∙◌, ap, subst}
use mathlib.Core.Bool.{Bool, true, false, cond, true≢false}
use mathlib.Core.List.{List, [], ◌∷◌, ◌++◌}
use Prim.Native.Nat.{ℕ, zero, suc, ◌+◌, ◌≤◌}
use native.Mathlib.Omega.{arith}
use lib.ListN.{length}
use Rattle.constraints.specs.Scalars.{Scalars}
use Rattle.constraints.specs.Payload.{payload}
use Rattle.constraints.specs.Values.{is_empty}
use Rattle.truth.specs.FromBytes.{aexpr_at}
use Rattle.merge.specs.Classify.{Conjunct, read_conjuncts}
use Rattle.merge.specs.Collect.{Table, Collected, is_in, enter, begin, collect}
use Rattle.merge.specs.Passes.{equalities, edge_columns, PassesEnd, PassesAtMostColumns, pass_count, passes_made, passes_of}
use Rattle.merge.specs.Passes.{merge_passes, MergePassesAtMostColumns, rewrite_passes, RewritePassesAtMostColumns}
use Rattle.merge.proofs.ReadBack.{collect-all, edges-read}
use Rattle.merge.proofs.Passes.{In, EdgesIn, pass_count-le}
use Rattle.merge.proofs.Sound.{in_enter, enter-in, collect-in, edges-grow, ends}

module _ {K Val : Type 0} (S : Scalars K Val) where
  pub passes-end : PassesEnd S
  passes-end l =
      let s = collect S l begin in ends S s.order s.edges s.constraints (collect-in S l begin tt)

  edges-in : (es : List (ℕ × ℕ × ℕ)) → EdgesIn S (edge_columns es) es
  edges-in [] = tt
  edges-in (e ∷ es) =
      let cs = edge_columns es in (
        (in_enter S e.0 e.1 (enter e.0 cs) (enter-in S e.0 cs), enter-in S e.1 (enter e.0 cs)),
        edges-grow S cs (enter e.1 (enter e.0 cs)) es
            (λ c i. in_enter S c e.1 (enter e.0 cs) (in_enter S c e.0 cs i)) (edges-in es),
      )

  snoc_long : (l : List ℕ) (c : ℕ) → 1 ≤ length (l ++ (c ∷ []))
  snoc_long [] c = omega arith
  snoc_long (d ∷ l) c = omega arith

  enter-long : (l : List ℕ) (c : ℕ) → 1 ≤ length (enter c l)
  enter-long [] c = omega arith
  enter-long (d ∷ l) c = go (is_in c (d ∷ l))
    where
      go : (b : Bool) → 1 ≤ length (cond b (d ∷ l) ((d ∷ l) ++ (c ∷ [])))
      go true = omega arith
      go false = omega arith

  pub passes-at_most_columns : PassesAtMostColumns S
  passes-at_most_columns n [] t h = absurd (true≢false h)
  passes-at_most_columns n (e ∷ es) t h =
      pass_count-le S (edge_columns (e ∷ es)) n (e ∷ es) t (edges-in (e ∷ es))
      (enter-long (enter e.0 (edge_columns es)) e.1)

  -- a reading that did not stop has seen every equality
  pub edges_are : (l : List (Conjunct Val)) → (collect S l begin).unsat ≡ false → (collect S l begin).edges ≡ equalities l
  edges_are l h = ap (λ s. s.edges) (collect-all S l begin h) ∙ edges-read S l begin

  made_at_most : (n : ℕ) (es : List (ℕ × ℕ × ℕ)) (t : Table Val) → passes_made S n es t ≤ length (edge_columns es)
  made_at_most n es t = go (is_empty es) refl
    where
      go : (b : Bool) → is_empty es ≡ b → cond b 0 (pass_count S n es t) ≤ length (edge_columns es)
      go true e = omega arith
      go false e = passes-at_most_columns n es t e

  pub merge_passes-at_most : MergePassesAtMostColumns S
  merge_passes-at_most l = go (collect S l begin) (edges_are l)
    where
      go : (s : Collected Val) → (s.unsat ≡ false → s.edges ≡ equalities l)
          → passes_of S s ≤ length (edge_columns (equalities l))
      go s h = by s.unsat refl
        where
          by : (b : Bool) → s.unsat ≡ b → cond b 0 (passes_made S (length s.order) s.edges s.constraints)
              ≤ length (edge_columns (equalities l))
          by true e = omega arith
          by false e =
              subst (λ es. passes_made S (length s.order) s.edges s.constraints ≤ length (edge_columns es)) (h e)
              (made_at_most (length s.order) s.edges s.constraints)

pub rewrite-passes_at_most : RewritePassesAtMostColumns
unfolding rewrite_passes
rewrite-passes_at_most rs p used root = merge_passes-at_most payload (read_conjuncts (aexpr_at rs p used) root)
