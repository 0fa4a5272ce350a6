-- An edge, from its two halves.
use mathlib.Core.Path.{◌≡◌, refl, sym, ◌∙◌, ap, subst}
use mathlib.Core.Bool.{Bool, true, false, cond, ◌||◌}
use mathlib.Core.List.{List}
use Prim.Native.Nat.{ℕ, ◌<◌, ◌%◌}
use lib.ListN.{get_or, set}
use lib.Dec.{eqb}
use borrow.Author.Tests.{eq-eqb, ne_eqb}
use Rattle.constraints.specs.Column as q
use Rattle.constraints.specs.Column.{merge_from, merge_emitted, merge_any}
use Rattle.constraints.specs.Lined.{Lined, lined}
use Rattle.column_constraints.specs.Abstraction.{Conjuncts, numbered, column_of, Fine}
use Rattle.column_constraints.specs.declared.column.ColumnConstraints.{ColumnConstraints}
use Rattle.merge.specs.Collect.{update}
use Rattle.merge.specs.Propagate.{merged_right, merged_left}
use Rattle.merge.proofs.Passes.{merge_edge_if, edge_any_if, edge_emitted_if}
use Rattle.column_table.specs.Rows.{stride, row_of, RowsKept}
use Rattle.column_table.specs.Words.{past_column}
use Rattle.column_table.specs.State.{ColumnTable, Shows, EdgeMerged}
use Rattle.column_table.proofs.Arrays.{shows-set, low-slot}
use Rattle.propagate_equalities.specs.Taken.{TakenIn}

-- c and d are the columns loaded, f is what is stored.
pub column-taken : (t : Conjuncts) (table table' : List ColumnConstraints) (ms ms' : List ℕ) (T : ColumnTable) (x y : ℕ)
    (c d f : ColumnConstraints) (em an : Bool) → Shows t table ms T → x < 64 → y < 64
    → c ≡ get_or table x past_column → d ≡ get_or table y past_column
    → (column_of t (numbered (row_of ms' x) f) ≡
    merge_from lined (column_of t (numbered (row_of ms x) c)) (column_of t (numbered (row_of ms y) d)))
    × (em ≡ merge_emitted lined (column_of t (numbered (row_of ms x) c)) (column_of t (numbered (row_of ms y) d)))
    × (an ≡ merge_any lined (column_of t (numbered (row_of ms x) c)) (column_of t (numbered (row_of ms y) d)))
    → Fine (stride ms') (row_of ms' x) f.len → RowsKept ms ms' x → table' ≡ set table x f
    → TakenIn t table' ms' x y em an T
column-taken t table table' ms ms' T x y c d f em an S lx ly hc hd e fine K h =
    let sc : column_of t (numbered (row_of ms x) c) ≡ T x =
    ap (λ z. column_of t (numbered (row_of ms x) z)) hc ∙ S.column x lx in
    let sd : column_of t (numbered (row_of ms y) d) ≡ T y =
    ap (λ z. column_of t (numbered (row_of ms y) z)) hd ∙ S.column y ly in
    record {
      shows = subst (λ u. Shows t u ms' (update T x (merge_from lined (T x) (T y)))) (sym h)
          (shows-set t table ms ms' T x f (merge_from lined (T x) (T y)) S lx K
          (e.0 ∙ ap (λ z. merge_from lined z (column_of t (numbered (row_of ms y) d))) sc ∙ ap (merge_from lined (T x)) sd)
          fine);
      emits = e.1 ∙ ap (λ z. merge_emitted lined z (column_of t (numbered (row_of ms y) d))) sc
          ∙ ap (merge_emitted lined (T x)) sd;
      changes = e.2 ∙ ap (λ z. merge_any lined z (column_of t (numbered (row_of ms y) d))) sc
          ∙ ap (merge_any lined (T x)) sd;
    }

-- Right took in left, then left took in right; x and y are the places of the columns a and b.
module _ (t : Conjuncts) (table table₁ table₂ : List ColumnConstraints) (ms ms₁ ms₂ : List ℕ) (T : ColumnTable)
    (em en an ao : Bool) (S : Shows t table ms T) where
  at_places : (a b : ℕ) → (a ≡ b → ⊥) → ((U : ColumnTable) → Shows t table ms U → TakenIn t table₁ ms₁ b a em an U)
      → ((U : ColumnTable) → Shows t table₁ ms₁ U → TakenIn t table₂ ms₂ a b en ao U)
      → EdgeMerged t table₂ ms₂ a b (em || en) (an || ao) T
  at_places a b h R L =
      record {
        shows = subst (λ o. Shows t table₂ ms₂ (merge_edge_if lined o a b T)) (sym e)
            (subst (λ z. Shows t table₂ ms₂ (update U a z)) left l.shows);
        emits = ap (λ z. z || en) r.emits ∙ ap (λ z. merge_emitted lined (T b) (T a) || z)
            (l.emits ∙ ap (λ z. merge_emitted lined z (U b)) ua ∙ ap (merge_emitted lined (T a)) ub)
            ∙ sym (ap (λ o. edge_emitted_if lined o a b T) e);
        changes = ap (λ z. z || ao) r.changes ∙ ap (λ z. merge_any lined (T b) (T a) || z)
            (l.changes ∙ ap (λ z. merge_any lined z (U b)) ua ∙ ap (merge_any lined (T a)) ub)
            ∙ sym (ap (λ o. edge_any_if lined o a b T) e);
      }
    where
      e : eqb a b ≡ false
      e = ne_eqb a b h

      U : ColumnTable
      U = update T b (merged_right lined a b T)

      r : TakenIn t table₁ ms₁ b a em an T
      r = R T S

      l : TakenIn t table₂ ms₂ a b en ao U
      l = L U r.shows

      ua : U a ≡ T a
      ua = ap (λ o. cond o (merged_right lined a b T) (T a)) (ne_eqb b a (λ k. h (sym k)))

      ub : U b ≡ merged_right lined a b T
      ub = ap (λ o. cond o (merged_right lined a b T) (T b)) (eq-eqb b b refl)

      left : merge_from lined (U a) (U b) ≡ merged_left lined a b T
      left = ap (λ z. merge_from lined z (U b)) ua ∙ ap (merge_from lined (T a)) ub

  pub edge-taken : (a b x y : ℕ) → a < 64 → b < 64 → x ≡ a % 64 → y ≡ b % 64 → (x ≡ y → ⊥)
      → ((U : ColumnTable) → Shows t table ms U → TakenIn t table₁ ms₁ y x em an U)
      → ((U : ColumnTable) → Shows t table₁ ms₁ U → TakenIn t table₂ ms₂ x y en ao U)
      → EdgeMerged t table₂ ms₂ a b (em || en) (an || ao) T
  edge-taken a b x y la lb ex ey h R L =
      let p : x ≡ a = low-slot a x la ex in
      let s : y ≡ b = low-slot b y lb ey in
      at_places a b (λ k. h (p ∙ k ∙ sym s))
      (subst (λ z. (U : ColumnTable) → Shows t table ms U → TakenIn t table₁ ms₁ b z em an U) p
      (subst (λ z. (U : ColumnTable) → Shows t table ms U → TakenIn t table₁ ms₁ z x em an U) s R))
      (subst (λ z. (U : ColumnTable) → Shows t table₁ ms₁ U → TakenIn t table₂ ms₂ z b en ao U) p
      (subst (λ z. (U : ColumnTable) → Shows t table₁ ms₁ U → TakenIn t table₂ ms₂ x z en ao U) s L))
