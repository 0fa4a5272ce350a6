-- The merging of values that are taken to others of the same keys: every stage commutes with it. So the lines that
-- values carry change nothing of what is merged (02, 2.6).
use mathlib.Core.Path.{◌≡◌, refl, sym, ◌∙◌, ap, fun_ext}
use mathlib.Core.Bool.{Bool, true, false, not, ◌&&◌, ◌||◌, cond}
use mathlib.Core.List.{List, [], ◌∷◌, ◌++◌, map}
use mathlib.Core.Option.{Option, none, some}
use Prim.Native.Nat.{ℕ, zero, suc}
use lib.Dec.{eqb, ltb}
use lib.IntN.{ℤ}
use lib.ListN.{length}
use Rattle.constraints.specs.declared.column.Nullability.TheVariants.{NonNull}
use Rattle.constraints.specs.Scalars.{Scalars}
use Rattle.constraints.specs.Payload.{payload}
use Rattle.constraints.specs.Lined.{Lined, on_line, lined}
use Rattle.constraints.specs.Mapped.{map_column, map_constraint, map_comparison}
use Rattle.constraints.specs.Column.{ColumnConstraints, Constraint, Lower, Upper, Exclude, Allow, Disallow, Require}
use Rattle.constraints.specs.Column.{add, add_all, merge_from, merge_emitted, merge_any}
use Rattle.constraints.specs.Values.{is_empty}
use Rattle.constraints.specs.Resolve.{fixed_value, resolve_deferred}
use Rattle.constraints.specs.Comparisons.{ColumnComparison, collect_column_comparisons}
use Rattle.constraints.proofs.Carried.{Carries, along, lines-carry, lined-along}
use Rattle.constraints.proofs.Carried.{add-carried, add_all-carried, merge_from-carried}
use Rattle.constraints.proofs.Carried.{merge_emitted-carried, merge_any-carried, map_value, fixed_value-carried}
use Rattle.constraints.proofs.Carried.{resolve_deferred-carried, collect-carried}
use Rattle.merge.specs.Classify.{Conjunct, Bounds, Normalized, Equality, Recorded, NonNullPair, Opaque}
use Rattle.merge.specs.Collect.{Table, update, Collected, collected, begin, enter, require_non_null, add_to}
use Rattle.merge.specs.Collect.{collect_one, collect}
use Rattle.merge.specs.Propagate.{merged_right, merged_left, merge_edge, edge_any, edge_emitted, pass, pass_any}
use Rattle.merge.specs.Propagate.{pass_emitted, propagate, propagate_emitted}
use Rattle.merge.specs.Emit.{Unchanged, NothingPasses, Rebuilt, of_column, is_fixed, any_unsat, comparisons}
use Rattle.merge.specs.Emit.{kept_equalities, dropped_equality, propagated, resolved, rewrites, rebuilt, conclude}
use Rattle.merge.specs.Emit.{merge_filter_constraints}
use Rattle.merge.specs.Lines.{map_conjunct, map_comparisons, map_outcome, lines_from}
use Rattle.merge.specs.Passes.{pass_count, passes_of, merge_passes}

-- ---- tables and what was collected, each value taken
abbrev pub map_table : {A B : Type 0} → (A → B) → Table A → Table B
map_table f t c = map_column f (t c)

abbrev pub map_collected : {A B : Type 0} → (A → B) → Collected A → Collected B
map_collected f s =
    collected (map_table f s.constraints) s.order s.opaque s.edges s.bound_conjuncts s.normalized
    s.unsat

module _ {K A B : Type 0} (S : Scalars K B) (f : A → B) (C : Carries S f) where
  pub update-carried : (t : Table A) (c : ℕ) (q : ColumnConstraints A) →
      update (map_table f t) c (map_column f q) ≡ map_table f (update t c q)
  update-carried t c q = fun_ext (λ d. go d (eqb c d))
    where
      go : (d : ℕ) (b : Bool) → cond b (map_column f q) (map_column f (t d)) ≡ map_column f (cond b q (t d))
      go d true = refl
      go d false = refl

  -- ---- collecting
  pub add_to-carried : (c : ℕ) (l : List (Constraint A)) (t : Table A) →
      add_to S c (map (map_constraint f) l) (map_table f t) ≡ map_table f (add_to (along C) c l t)
  add_to-carried c l t = ap (update (map_table f t) c) (add_all-carried S f C l (t c)) ∙
      update-carried t c (add_all (along C) l (t c))

  pub require_carried : (c : ℕ) (t : Table A) →
      require_non_null S c (map_table f t) ≡ map_table f (require_non_null (along C) c t)
  require_carried c t = ap (update (map_table f t) c) (add-carried S f C (Require NonNull) (t c)) ∙
      update-carried t c (add (along C) (Require NonNull) (t c))

  require_both : (a b : ℕ) (t : Table A) → require_non_null S b (require_non_null S a (map_table f t)) ≡
      map_table f (require_non_null (along C) b (require_non_null (along C) a t))
  require_both a b t = ap (require_non_null S b) (require_carried a t) ∙ require_carried b (require_non_null (along C) a t)

  pub collect_one-carried : (c : Conjunct A) (s : Collected A) →
      collect_one S (map_conjunct f c) (map_collected f s) ≡ map_collected f (collect_one (along C) c s)
  collect_one-carried (Bounds c l) s =
      λ i. collected (add_to-carried c l s.constraints i) (enter c s.order) s.opaque s.edges
      (suc s.bound_conjuncts) s.normalized (add_all-carried S f C l (s.constraints c) i).unsat
  collect_one-carried (Normalized c l) s =
      λ i. collected (add_to-carried c l s.constraints i) (enter c s.order) s.opaque s.edges
      (suc s.bound_conjuncts) true (add_all-carried S f C l (s.constraints c) i).unsat
  collect_one-carried (Equality a b n) s =
      λ i. collected (require_both a b s.constraints i) (enter b (enter a s.order)) s.opaque
      (s.edges ++ ((a, b, n) ∷ [])) s.bound_conjuncts s.normalized false
  collect_one-carried (Recorded stops n c l) s =
      λ i. collected (add_to-carried c l s.constraints i) (enter c s.order) (s.opaque ++ (n ∷ [])) s.edges
      s.bound_conjuncts s.normalized (stops && (add_all-carried S f C l (s.constraints c) i).unsat)
  collect_one-carried (NonNullPair n a b) s =
      λ i. collected (require_both a b s.constraints i) (enter b (enter a s.order)) (s.opaque ++ (n ∷ []))
      s.edges s.bound_conjuncts s.normalized false
  collect_one-carried (Opaque n) s = refl

  pub collect_all_carried : (l : List (Conjunct A)) (s : Collected A) →
      collect S (map (map_conjunct f) l) (map_collected f s) ≡ map_collected f (collect (along C) l s)
  collect_all_carried [] s = refl
  collect_all_carried (c ∷ l) s = ap (collect S (map (map_conjunct f) l)) (go s.unsat) ∙ collect_all_carried l
      (cond s.unsat s (collect_one (along C) c s))
    where
      go : (b : Bool) → cond b (map_collected f s) (collect_one S (map_conjunct f c) (map_collected f s)) ≡
          map_collected f (cond b s (collect_one (along C) c s))
      go true = refl
      go false = collect_one-carried c s

  -- ---- the passes
  pub right-carried : (a b : ℕ) (t : Table A) → merged_right S a b (map_table f t) ≡ map_column f (merged_right (along C) a b t)
  right-carried a b t = merge_from-carried S f C (t b) (t a)

  pub left-carried : (a b : ℕ) (t : Table A) → merged_left S a b (map_table f t) ≡ map_column f (merged_left (along C) a b t)
  left-carried a b t = ap (merge_from S (map_column f (t a))) (right-carried a b t) ∙
      merge_from-carried S f C (t a) (merged_right (along C) a b t)

  pub edge-carried : (a b : ℕ) (t : Table A) → merge_edge S a b (map_table f t) ≡ map_table f (merge_edge (along C) a b t)
  edge-carried a b t = go (eqb a b)
    where
      r : ColumnConstraints A
      r = merged_right (along C) a b t

      l : ColumnConstraints A
      l = merged_left (along C) a b t

      both : update (update (map_table f t) b (merged_right S a b (map_table f t))) a (merged_left S a b (map_table f t)) ≡
          map_table f (update (update t b r) a l)
      both = (λ i. update (update (map_table f t) b (right-carried a b t i)) a (left-carried a b t i)) ∙
          ap (λ x. update x a (map_column f l)) (update-carried t b r) ∙ update-carried (update t b r) a l

      go : (o : Bool) → cond o (map_table f t)
          (update (update (map_table f t) b (merged_right S a b (map_table f t))) a (merged_left S a b (map_table f t))) ≡
          map_table f (cond o t (update (update t b r) a l))
      go true = refl
      go false = both

  pub edge_any-carried : (a b : ℕ) (t : Table A) → edge_any S a b (map_table f t) ≡ edge_any (along C) a b t
  edge_any-carried a b t = λ i. not (eqb a b) && (merge_any-carried S f C (t b) (t a) i ||
      (ap (merge_any S (map_column f (t a))) (right-carried a b t) ∙
      merge_any-carried S f C (t a) (merged_right (along C) a b t)) i)

  pub edge_emitted-carried : (a b : ℕ) (t : Table A) → edge_emitted S a b (map_table f t) ≡ edge_emitted (along C) a b t
  edge_emitted-carried a b t = λ i. not (eqb a b) && (merge_emitted-carried S f C (t b) (t a) i ||
      (ap (merge_emitted S (map_column f (t a))) (right-carried a b t) ∙
      merge_emitted-carried S f C (t a) (merged_right (along C) a b t)) i)

  pub pass-carried : (es : List (ℕ × ℕ × ℕ)) (t : Table A) → pass S es (map_table f t) ≡ map_table f (pass (along C) es t)
  pass-carried [] t = refl
  pass-carried (e ∷ es) t = ap (pass S es) (edge-carried e.0 e.1 t) ∙
      pass-carried es (merge_edge (along C) e.0 e.1 t)

  pub pass_any-carried : (es : List (ℕ × ℕ × ℕ)) (t : Table A) → pass_any S es (map_table f t) ≡ pass_any (along C) es t
  pass_any-carried [] t = refl
  pass_any-carried (e ∷ es) t = λ i. edge_any-carried e.0 e.1 t i ||
      (ap (pass_any S es) (edge-carried e.0 e.1 t) ∙ pass_any-carried es (merge_edge (along C) e.0 e.1 t)) i

  pub pass_emitted-carried : (es : List (ℕ × ℕ × ℕ)) (t : Table A) →
      pass_emitted S es (map_table f t) ≡ pass_emitted (along C) es t
  pass_emitted-carried [] t = refl
  pass_emitted-carried (e ∷ es) t = λ i. edge_emitted-carried e.0 e.1 t i ||
      (ap (pass_emitted S es) (edge-carried e.0 e.1 t) ∙
      pass_emitted-carried es (merge_edge (along C) e.0 e.1 t)) i

  pub propagate-carried : (n : ℕ) (es : List (ℕ × ℕ × ℕ)) (t : Table A) →
      propagate S n es (map_table f t) ≡ map_table f (propagate (along C) n es t)
  propagate-carried zero es t = refl
  propagate-carried (suc n) es t = (λ i. cond (pass_any-carried es t i)
      ((ap (propagate S n es) (pass-carried es t) ∙ propagate-carried n es (pass (along C) es t)) i)
      (pass-carried es t i)) ∙ go (pass_any (along C) es t)
    where
      p : Table A
      p = pass (along C) es t

      go : (b : Bool) → cond b (map_table f (propagate (along C) n es p)) (map_table f p) ≡
          map_table f (cond b (propagate (along C) n es p) p)
      go true = refl
      go false = refl

  pub propagate_emitted-carried : (n : ℕ) (es : List (ℕ × ℕ × ℕ)) (t : Table A) →
      propagate_emitted S n es (map_table f t) ≡ propagate_emitted (along C) n es t
  propagate_emitted-carried zero es t = refl
  propagate_emitted-carried (suc n) es t = λ i. pass_emitted-carried es t i || cond (pass_any-carried es t i)
      ((ap (propagate_emitted S n es) (pass-carried es t) ∙ propagate_emitted-carried n es (pass (along C) es t)) i) false

  pub pass_count-carried : (n : ℕ) (es : List (ℕ × ℕ × ℕ)) (t : Table A) →
      pass_count S n es (map_table f t) ≡ pass_count (along C) n es t
  pass_count-carried zero es t = refl
  pass_count-carried (suc n) es t = λ i. suc (cond (pass_any-carried es t i)
      ((ap (pass_count S n es) (pass-carried es t) ∙ pass_count-carried n es (pass (along C) es t)) i) 0)

  -- ---- emitting
  pub of_column-carried : (c : ℕ) (l : List (ColumnComparison A)) (m : List (ℕ × ColumnComparison A)) →
      of_column c (map (map_comparison f) l) ++ map_comparisons f m ≡ map_comparisons f (of_column c l ++ m)
  of_column-carried c [] m = refl
  of_column-carried c (x ∷ l) m = ap (λ r. (c, map_comparison f x) ∷ r) (of_column-carried c l m)

  pub comparisons-carried : (cs : List ℕ) (t : Table A) →
      comparisons S cs (map_table f t) ≡ map_comparisons f (comparisons (along C) cs t)
  comparisons-carried [] t = refl
  comparisons-carried (c ∷ cs) t =
      (λ i. of_column c (collect-carried S f C (t c) i) ++ comparisons-carried cs t i) ∙
      of_column-carried c (collect_column_comparisons (along C) (t c)) (comparisons (along C) cs t)

  pub is_fixed-carried : (t : Table A) (c : ℕ) →
      is_fixed (fixed_value S (map_table f t c)) ≡ is_fixed (fixed_value (along C) (t c))
  is_fixed-carried t c = ap is_fixed (fixed_value-carried S f C (t c)) ∙ go (fixed_value (along C) (t c))
    where
      go : (o : Option A) → is_fixed (map_value S f C o) ≡ is_fixed o
      go none = refl
      go (some v) = refl

  pub kept_equalities-carried : (t : Table A) (es : List (ℕ × ℕ × ℕ)) →
      kept_equalities S (map_table f t) es ≡ kept_equalities (along C) t es
  kept_equalities-carried t [] = refl
  kept_equalities-carried t (e ∷ es) = λ i. cond (is_fixed-carried t e.0 i) (kept_equalities-carried t es i)
      (e.2 ∷ kept_equalities-carried t es i)

  pub dropped_equality-carried : (t : Table A) (es : List (ℕ × ℕ × ℕ)) →
      dropped_equality S (map_table f t) es ≡ dropped_equality (along C) t es
  dropped_equality-carried t [] = refl
  dropped_equality-carried t (e ∷ es) = λ i. is_fixed-carried t e.0 i || dropped_equality-carried t es i

  pub any_unsat-carried : (cs : List ℕ) (t : Table A) → any_unsat cs (map_table f t) ≡ any_unsat cs t
  any_unsat-carried [] t = refl
  any_unsat-carried (c ∷ cs) t = ap (λ b. (t c).unsat || b) (any_unsat-carried cs t)

  pub propagated-carried : (s : Collected A) → propagated S (map_collected f s) ≡ map_table f (propagated (along C) s)
  propagated-carried s = propagate-carried (length s.order) s.edges s.constraints

  pub resolved-carried : (s : Collected A) → resolved S (map_collected f s) ≡ map_table f (resolved (along C) s)
  resolved-carried s = fun_ext (λ c. ap (λ t. resolve_deferred S (t c)) (propagated-carried s) ∙
      resolve_deferred-carried S f C (propagated (along C) s c))

  pub written-carried : (s : Collected A) → comparisons S s.order (resolved S (map_collected f s)) ≡
      map_comparisons f (comparisons (along C) s.order (resolved (along C) s))
  written-carried s = ap (comparisons S s.order) (resolved-carried s) ∙
      comparisons-carried s.order (resolved (along C) s)

  pub length-carried : (l : List (ℕ × ColumnComparison A)) → length (map_comparisons f l) ≡ length l
  length-carried [] = refl
  length-carried (x ∷ l) = ap suc (length-carried l)

  pub rewrites-carried : (s : Collected A) → rewrites S (map_collected f s) ≡ rewrites (along C) s
  rewrites-carried s = λ i.
      ltb ((ap length (written-carried s) ∙ length-carried (comparisons (along C) s.order (resolved (along C) s))) i)
      s.bound_conjuncts
      || (s.normalized || (propagate_emitted-carried (length s.order) s.edges s.constraints i ||
      (ap (λ t. dropped_equality S t s.edges) (propagated-carried s) ∙
      dropped_equality-carried (propagated (along C) s) s.edges) i))

  pub rebuilt-carried : (s : Collected A) → rebuilt S (map_collected f s) ≡ map_outcome f (rebuilt (along C) s)
  rebuilt-carried s = λ i. Rebuilt (s.opaque ++ (ap (λ t. kept_equalities S t s.edges) (propagated-carried s) ∙
      kept_equalities-carried (propagated (along C) s) s.edges) i) (written-carried s i)

  pub conclude-carried : (s : Collected A) → conclude S (map_collected f s) ≡ map_outcome f (conclude (along C) s)
  conclude-carried s = (λ i. cond (s.unsat || (ap (any_unsat s.order) (resolved-carried s) ∙
      any_unsat-carried s.order (resolved (along C) s)) i) NothingPasses
      (cond (rewrites-carried s i) (rebuilt-carried s i) Unchanged)) ∙
      go (s.unsat || any_unsat s.order (resolved (along C) s)) (rewrites (along C) s)
    where
      go : (b c : Bool) → cond b NothingPasses (cond c (map_outcome f (rebuilt (along C) s)) Unchanged) ≡
          map_outcome f (cond b NothingPasses (cond c (rebuilt (along C) s) Unchanged))
      go true c = refl
      go false true = refl
      go false false = refl

  -- ---- all of it
  pub merge_carried : (l : List (Conjunct A)) →
      map_outcome f (merge_filter_constraints (along C) l) ≡ merge_filter_constraints S (map (map_conjunct f) l)
  merge_carried l = sym (ap (conclude S) (collect_all_carried l begin) ∙ conclude-carried (collect (along C) l begin))

  pub passes-carried : (l : List (Conjunct A)) → merge_passes (along C) l ≡ merge_passes S (map (map_conjunct f) l)
  passes-carried l = sym (ap (passes_of S) (collect_all_carried l begin) ∙ go (collect (along C) l begin))
    where
      go : (s : Collected A) → passes_of S (map_collected f s) ≡ passes_of (along C) s
      go s = ap (λ n. cond s.unsat 0 (cond (is_empty s.edges) 0 n))
          (pass_count-carried (length s.order) s.edges s.constraints)

-- ---- values with their lines
-- Whatever lines the values carry: what is merged, and the passes made, are those of the values alone.
pub carried_any : (l : List (Conjunct Lined)) → map_outcome (λ v. v.bits) (merge_filter_constraints lined l) ≡
    merge_filter_constraints payload (map (map_conjunct (λ v. v.bits)) l)
carried_any l = ap (λ (T : Scalars ℤ Lined). map_outcome (λ v. v.bits) (merge_filter_constraints T l)) lined-along ∙
    merge_carried payload (λ v. v.bits) lines-carry l

pub carried_any_passes : (l : List (Conjunct Lined)) →
    merge_passes lined l ≡ merge_passes payload (map (map_conjunct (λ v. v.bits)) l)
carried_any_passes l = ap (λ (T : Scalars ℤ Lined). merge_passes T l) lined-along ∙
    passes-carried payload (λ v. v.bits) lines-carry l

-- The stages one by one.
pub carried_collect : (l : List (Conjunct Lined)) → map_collected (λ v. v.bits) (collect lined l begin) ≡
    collect payload (map (map_conjunct (λ v. v.bits)) l) begin
carried_collect l = ap (λ (T : Scalars ℤ Lined). map_collected (λ v. v.bits) (collect T l begin)) lined-along ∙
    sym (collect_all_carried payload (λ v. v.bits) lines-carry l begin)

pub carried_propagated : (s : Collected Lined) →
    map_table (λ v. v.bits) (propagated lined s) ≡ propagated payload (map_collected (λ v. v.bits) s)
carried_propagated s = ap (λ (T : Scalars ℤ Lined). map_table (λ v. v.bits) (propagated T s)) lined-along ∙
    sym (propagated-carried payload (λ v. v.bits) lines-carry s)

pub carried_resolved : (s : Collected Lined) →
    map_table (λ v. v.bits) (resolved lined s) ≡ resolved payload (map_collected (λ v. v.bits) s)
carried_resolved s = ap (λ (T : Scalars ℤ Lined). map_table (λ v. v.bits) (resolved T s)) lined-along ∙
    sym (resolved-carried payload (λ v. v.bits) lines-carry s)

-- conjuncts under their numbers are the conjuncts
values-back : (i : ℕ) (l : List ℕ) → map (λ v. v.bits) (map (on_line i) l) ≡ l
values-back i [] = refl
values-back i (v ∷ l) = ap (λ m. v ∷ m) (values-back i l)

constraint-back : (i : ℕ) (a : Constraint ℕ) → map_constraint (λ v. v.bits) (map_constraint (on_line i) a) ≡ a
constraint-back i (Lower c v) = refl
constraint-back i (Upper c v) = refl
constraint-back i (Exclude v) = refl
constraint-back i (Allow l) = ap Allow (values-back i l)
constraint-back i (Disallow c l) = ap (Disallow c) (values-back i l)
constraint-back i (Require n) = refl

constraints-back : (i : ℕ) (l : List (Constraint ℕ)) →
    map (map_constraint (λ v. v.bits)) (map (map_constraint (on_line i)) l) ≡ l
constraints-back i [] = refl
constraints-back i (a ∷ l) = λ j. constraint-back i a j ∷ constraints-back i l j

conjunct-back : (i : ℕ) (c : Conjunct ℕ) → map_conjunct (λ v. v.bits) (map_conjunct (on_line i) c) ≡ c
conjunct-back i (Bounds c l) = ap (Bounds c) (constraints-back i l)
conjunct-back i (Normalized c l) = ap (Normalized c) (constraints-back i l)
conjunct-back i (Equality a b n) = refl
conjunct-back i (Recorded stops n c l) = ap (Recorded stops n c) (constraints-back i l)
conjunct-back i (NonNullPair n a b) = refl
conjunct-back i (Opaque n) = refl

pub lines-back : (i : ℕ) (l : List (Conjunct ℕ)) → map (map_conjunct (λ v. v.bits)) (lines_from i l) ≡ l
unfolding lines_from
lines-back i [] = refl
lines-back i (c ∷ l) = λ j. conjunct-back i c j ∷ lines-back (suc i) l j

pub carried : (l : List (Conjunct ℕ)) →
    map_outcome (λ v. v.bits) (merge_filter_constraints lined (lines_from 0 l)) ≡ merge_filter_constraints payload l
carried l = carried_any (lines_from 0 l) ∙ ap (merge_filter_constraints payload) (lines-back 0 l)

pub carried_passes : (l : List (Conjunct ℕ)) → merge_passes lined (lines_from 0 l) ≡ merge_passes payload l
carried_passes l = carried_any_passes (lines_from 0 l) ∙ ap (merge_passes payload) (lines-back 0 l)
