-- The merging of columns each of one kind: a screen with columns of several types compares no two values of different
-- types, so instances that compare alike only values of the same kind merge alike, where each column's values are of the
-- column's kind and equalities join columns of one kind. So a screen of numbers and symbols is merged as one of numbers
-- and ranks (02, 2.10), though a rank does not compare with a number as the symbol would.
use mathlib.Core.Path.{◌≡◌, refl, sym, ◌∙◌, ap, subst}
use mathlib.Core.Bool.{Bool, true, false, not, ◌&&◌, ◌||◌, cond}
use mathlib.Core.List.{List, [], ◌∷◌, ◌++◌}
use Prim.Native.Nat.{ℕ, zero, suc}
use lib.Dec.{eqb, ltb}
use lib.ListN.{length}
use Rattle.constraints.specs.declared.column.Nullability.TheVariants.{NonNull}
use Rattle.constraints.specs.Scalars.{Scalars}
use Rattle.constraints.specs.Column.{Constraint, Require, add_all, empty, merge_from, merge_emitted, merge_any}
use Rattle.constraints.specs.Resolve.{resolve_deferred}
use Rattle.constraints.specs.Values.{is_empty}
use Rattle.constraints.proofs.Carried.{Carries, along}
use Rattle.constraints.proofs.SameWithin.{SameWithin, ColumnOf, ConstraintsHave, constraints-of, add_all-within, add_all-of}
use Rattle.constraints.proofs.SameWithin.{merge_from-within, merge_from-of, merge_emitted-within, merge_any-within}
use Rattle.constraints.proofs.SameWithin.{resolve_deferred-within, resolve_deferred-of, fixed_value-within, collect-within}
use Rattle.merge.specs.Classify.{Conjunct, Bounds, Normalized, Equality, Recorded, NonNullPair, Opaque}
use Rattle.merge.specs.Collect.{Table, update, Collected, collected, begin, enter, require_non_null, add_to}
use Rattle.merge.specs.Collect.{collect_one, collect}
use Rattle.merge.specs.Propagate.{merged_right, merged_left, merge_edge, edge_any, edge_emitted, pass, pass_any}
use Rattle.merge.specs.Propagate.{pass_emitted, propagate, propagate_emitted}
use Rattle.merge.specs.Emit.{Unchanged, NothingPasses, Rebuilt, of_column, is_fixed, any_unsat, comparisons}
use Rattle.merge.specs.Emit.{kept_equalities, dropped_equality, propagated, resolved, rewrites, rebuilt, conclude}
use Rattle.merge.specs.Emit.{merge_filter_constraints}
use Rattle.merge.specs.Passes.{pass_count, passes_of, merge_passes}
use Rattle.merge.proofs.Passes.{edge-ind}
use Rattle.merge.proofs.Translated.{Translated, translates}
use Rattle.merge.proofs.Sound.{upd_ind}

-- ---- Kinds of columns, by number.
module _ {Val T : Type 0} (kind : Val → T) (kind_at : ℕ → T) where
  -- a column's values are of its kind, and the two columns of an equality are of one kind
  abbrev pub ConjunctHas : Conjunct Val → Type 0
  ConjunctHas (Bounds c l) = ConstraintsHave kind (kind_at c) l
  ConjunctHas (Normalized c l) = ConstraintsHave kind (kind_at c) l
  ConjunctHas (Equality a b n) = kind_at a ≡ kind_at b
  ConjunctHas (Recorded stops n c l) = ConstraintsHave kind (kind_at c) l
  ConjunctHas (NonNullPair n a b) = Unit {0}
  ConjunctHas (Opaque n) = Unit {0}

  abbrev pub ConjunctsHave : List (Conjunct Val) → Type 0
  ConjunctsHave [] = Unit {0}
  ConjunctsHave (x ∷ l) = ConjunctHas x × ConjunctsHave l

  abbrev EdgesHave : List (ℕ × ℕ × ℕ) → Type 0
  EdgesHave [] = Unit {0}
  EdgesHave (e ∷ es) = (kind_at e.0 ≡ kind_at e.1) × EdgesHave es

  abbrev TableOf : Table Val → Type 0
  TableOf t = (c : ℕ) → ColumnOf kind (kind_at c) (t c)

  abbrev CollectedOf : Collected Val → Type 0
  CollectedOf s = TableOf s.constraints × EdgesHave s.edges

  edge_more : (es : List (ℕ × ℕ × ℕ)) (a b n : ℕ) → EdgesHave es → kind_at a ≡ kind_at b →
      EdgesHave (es ++ ((a, b, n) ∷ []))
  edge_more [] a b n h k = (k, tt)
  edge_more (d ∷ es) a b n h k = (h.0, edge_more es a b n h.1 k)

module _ {K K' Val T : Type 0} {kind : Val → T} {S : Scalars K Val} {S' : Scalars K' Val} (E : SameWithin kind S S')
    (kind_at : ℕ → T) where
  -- ---- collecting
  add_to-within : (c : ℕ) (l : List (Constraint Val)) (t : Table Val) → ConstraintsHave kind (kind_at c) l →
      TableOf kind kind_at t → add_to S c l t ≡ add_to S' c l t
  add_to-within c l t g h =
      ap (update t c) (add_all-within E (kind_at c) l (t c) (constraints-of kind (kind_at c) l g) (h c))

  add_to-of : (c : ℕ) (l : List (Constraint Val)) (t : Table Val) → ConstraintsHave kind (kind_at c) l →
      TableOf kind kind_at t → TableOf kind kind_at (add_to S c l t)
  add_to-of c l t g h =
      upd_ind S (λ d q. ColumnOf kind (kind_at d) q) t c (add_all S l (t c)) h
      (add_all-of E (kind_at c) l (t c) (constraints-of kind (kind_at c) l g) (h c))

  both-within : (a b : ℕ) (t : Table Val) → TableOf kind kind_at t →
      require_non_null S b (require_non_null S a t) ≡ require_non_null S' b (require_non_null S' a t)
  both-within a b t h =
      add_to-within b (Require NonNull ∷ []) (require_non_null S a t) (tt, tt)
      (add_to-of a (Require NonNull ∷ []) t (tt, tt) h)
      ∙ ap (require_non_null S' b) (add_to-within a (Require NonNull ∷ []) t (tt, tt) h)

  both_of : (a b : ℕ) (t : Table Val) → TableOf kind kind_at t →
      TableOf kind kind_at (require_non_null S b (require_non_null S a t))
  both_of a b t h =
      add_to-of b (Require NonNull ∷ []) (require_non_null S a t) (tt, tt) (add_to-of a (Require NonNull ∷ []) t (tt, tt) h)

  unsat-within : (c : ℕ) (l : List (Constraint Val)) (t : Table Val) → ConstraintsHave kind (kind_at c) l →
      TableOf kind kind_at t → (add_all S l (t c)).unsat ≡ (add_all S' l (t c)).unsat
  unsat-within c l t g h =
      ap (λ q. q.unsat) (add_all-within E (kind_at c) l (t c) (constraints-of kind (kind_at c) l g) (h c))

  collect_one-within : (x : Conjunct Val) (s : Collected Val) → ConjunctHas kind kind_at x →
      TableOf kind kind_at s.constraints → collect_one S x s ≡ collect_one S' x s
  collect_one-within (Bounds c l) s g h =
      λ i. collected (add_to-within c l s.constraints g h i) (enter c s.order) s.opaque s.edges (suc s.bound_conjuncts)
      s.normalized (unsat-within c l s.constraints g h i)
  collect_one-within (Normalized c l) s g h =
      λ i. collected (add_to-within c l s.constraints g h i) (enter c s.order) s.opaque s.edges (suc s.bound_conjuncts)
      true (unsat-within c l s.constraints g h i)
  collect_one-within (Equality a b n) s g h =
      λ i. collected (both-within a b s.constraints h i) (enter b (enter a s.order)) s.opaque
      (s.edges ++ ((a, b, n) ∷ [])) s.bound_conjuncts s.normalized false
  collect_one-within (Recorded stops n c l) s g h =
      λ i. collected (add_to-within c l s.constraints g h i) (enter c s.order) (s.opaque ++ (n ∷ [])) s.edges
      s.bound_conjuncts s.normalized (stops && unsat-within c l s.constraints g h i)
  collect_one-within (NonNullPair n a b) s g h =
      λ i. collected (both-within a b s.constraints h i) (enter b (enter a s.order)) (s.opaque ++ (n ∷ [])) s.edges
      s.bound_conjuncts s.normalized false
  collect_one-within (Opaque n) s g h = refl

  collect_one-of : (x : Conjunct Val) (s : Collected Val) → ConjunctHas kind kind_at x → CollectedOf kind kind_at s →
      CollectedOf kind kind_at (collect_one S x s)
  collect_one-of (Bounds c l) s g h = (add_to-of c l s.constraints g h.0, h.1)
  collect_one-of (Normalized c l) s g h = (add_to-of c l s.constraints g h.0, h.1)
  collect_one-of (Equality a b n) s g h =
      (both_of a b s.constraints h.0, edge_more kind kind_at s.edges a b n h.1 g)
  collect_one-of (Recorded stops n c l) s g h = (add_to-of c l s.constraints g h.0, h.1)
  collect_one-of (NonNullPair n a b) s g h = (both_of a b s.constraints h.0, h.1)
  collect_one-of (Opaque n) s g h = h

  next_of : (x : Conjunct Val) (s : Collected Val) → ConjunctHas kind kind_at x → CollectedOf kind kind_at s →
      CollectedOf kind kind_at (cond s.unsat s (collect_one S x s))
  next_of x s g h = go s.unsat
    where
      go : (b : Bool) → CollectedOf kind kind_at (cond b s (collect_one S x s))
      go true = h
      go false = collect_one-of x s g h

  pub collect_all_within : (l : List (Conjunct Val)) (s : Collected Val) → ConjunctsHave kind kind_at l →
      CollectedOf kind kind_at s → collect S l s ≡ collect S' l s
  collect_all_within [] s g h = refl
  collect_all_within (x ∷ l) s g h =
      collect_all_within l (cond s.unsat s (collect_one S x s)) g.1 (next_of x s g.0 h)
      ∙ ap (λ y. collect S' l (cond s.unsat s y)) (collect_one-within x s g.0 h.0)

  collect_all_of : (l : List (Conjunct Val)) (s : Collected Val) → ConjunctsHave kind kind_at l →
      CollectedOf kind kind_at s → CollectedOf kind kind_at (collect S l s)
  collect_all_of [] s g h = h
  collect_all_of (x ∷ l) s g h =
      collect_all_of l (cond s.unsat s (collect_one S x s)) g.1 (next_of x s g.0 h)

  -- ---- the passes
  module _ (a b : ℕ) (t : Table Val) (e : kind_at a ≡ kind_at b) (h : TableOf kind kind_at t) where
    -- the left column as one of the right column's kind, the right one as one of the left column's
    left_there : ColumnOf kind (kind_at b) (t a)
    left_there = subst (λ k. ColumnOf kind k (t a)) e (h a)

    right_of : ColumnOf kind (kind_at b) (merged_right S a b t)
    right_of = merge_from-of E (kind_at b) (t b) (t a) (h b) left_there

    right_there : ColumnOf kind (kind_at a) (merged_right S a b t)
    right_there = subst (λ k. ColumnOf kind k (merged_right S a b t)) (sym e) right_of

    right-within : merged_right S a b t ≡ merged_right S' a b t
    right-within = merge_from-within E (kind_at b) (t b) (t a) (h b) left_there

    left-within : merged_left S a b t ≡ merged_left S' a b t
    left-within =
        merge_from-within E (kind_at a) (t a) (merged_right S a b t) (h a) right_there
        ∙ ap (merge_from S' (t a)) right-within

    edge-within : merge_edge S a b t ≡ merge_edge S' a b t
    edge-within = λ i. cond (eqb a b) t (update (update t b (right-within i)) a (left-within i))

    edge_of : TableOf kind kind_at (merge_edge S a b t)
    edge_of =
        edge-ind S (λ c q. ColumnOf kind (kind_at c) q) a b t h right_of
        (merge_from-of E (kind_at a) (t a) (merged_right S a b t) (h a) right_there) (eqb a b)

    edge_any-within : edge_any S a b t ≡ edge_any S' a b t
    edge_any-within =
        λ i. not (eqb a b) && (merge_any-within E (kind_at b) (t b) (t a) (h b) left_there i
        || (merge_any-within E (kind_at a) (t a) (merged_right S a b t) (h a) right_there
        ∙ ap (merge_any S' (t a)) right-within) i)

    edge_emitted-within : edge_emitted S a b t ≡ edge_emitted S' a b t
    edge_emitted-within =
        λ i. not (eqb a b) && (merge_emitted-within E (kind_at b) (t b) (t a) (h b) left_there i
        || (merge_emitted-within E (kind_at a) (t a) (merged_right S a b t) (h a) right_there
        ∙ ap (merge_emitted S' (t a)) right-within) i)

  pass-within : (es : List (ℕ × ℕ × ℕ)) (t : Table Val) → EdgesHave kind kind_at es → TableOf kind kind_at t →
      pass S es t ≡ pass S' es t
  pass-within [] t k h = refl
  pass-within (e ∷ es) t k h =
      pass-within es (merge_edge S e.0 e.1 t) k.1 (edge_of e.0 e.1 t k.0 h)
      ∙ ap (pass S' es) (edge-within e.0 e.1 t k.0 h)

  pass_of : (es : List (ℕ × ℕ × ℕ)) (t : Table Val) → EdgesHave kind kind_at es → TableOf kind kind_at t →
      TableOf kind kind_at (pass S es t)
  pass_of [] t k h = h
  pass_of (e ∷ es) t k h = pass_of es (merge_edge S e.0 e.1 t) k.1 (edge_of e.0 e.1 t k.0 h)

  pass_any-within : (es : List (ℕ × ℕ × ℕ)) (t : Table Val) → EdgesHave kind kind_at es → TableOf kind kind_at t →
      pass_any S es t ≡ pass_any S' es t
  pass_any-within [] t k h = refl
  pass_any-within (e ∷ es) t k h =
      λ i. edge_any-within e.0 e.1 t k.0 h i
      || (pass_any-within es (merge_edge S e.0 e.1 t) k.1 (edge_of e.0 e.1 t k.0 h)
      ∙ ap (pass_any S' es) (edge-within e.0 e.1 t k.0 h)) i

  pass_emitted-within : (es : List (ℕ × ℕ × ℕ)) (t : Table Val) → EdgesHave kind kind_at es → TableOf kind kind_at t →
      pass_emitted S es t ≡ pass_emitted S' es t
  pass_emitted-within [] t k h = refl
  pass_emitted-within (e ∷ es) t k h =
      λ i. edge_emitted-within e.0 e.1 t k.0 h i
      || (pass_emitted-within es (merge_edge S e.0 e.1 t) k.1 (edge_of e.0 e.1 t k.0 h)
      ∙ ap (pass_emitted S' es) (edge-within e.0 e.1 t k.0 h)) i

  module _ (es : List (ℕ × ℕ × ℕ)) (k : EdgesHave kind kind_at es) where
    propagate-within : (n : ℕ) (t : Table Val) → TableOf kind kind_at t → propagate S n es t ≡ propagate S' n es t
    propagate-within zero t h = refl
    propagate-within (suc n) t h =
        λ i. cond (pass_any-within es t k h i)
        ((propagate-within n (pass S es t) (pass_of es t k h) ∙ ap (propagate S' n es) (pass-within es t k h)) i)
        (pass-within es t k h i)

    propagate-of : (n : ℕ) (t : Table Val) → TableOf kind kind_at t → TableOf kind kind_at (propagate S n es t)
    propagate-of zero t h = h
    propagate-of (suc n) t h = go (pass_any S es t) (propagate-of n (pass S es t) (pass_of es t k h))
      where
        go : (b : Bool) → TableOf kind kind_at (propagate S n es (pass S es t)) →
            TableOf kind kind_at (cond b (propagate S n es (pass S es t)) (pass S es t))
        go true g = g
        go false g = pass_of es t k h

    propagate_emitted-within : (n : ℕ) (t : Table Val) → TableOf kind kind_at t →
        propagate_emitted S n es t ≡ propagate_emitted S' n es t
    propagate_emitted-within zero t h = refl
    propagate_emitted-within (suc n) t h =
        λ i. pass_emitted-within es t k h i || cond (pass_any-within es t k h i)
        ((propagate_emitted-within n (pass S es t) (pass_of es t k h)
        ∙ ap (propagate_emitted S' n es) (pass-within es t k h)) i) false

    pass_count-within : (n : ℕ) (t : Table Val) → TableOf kind kind_at t → pass_count S n es t ≡ pass_count S' n es t
    pass_count-within zero t h = refl
    pass_count-within (suc n) t h =
        λ i. suc (cond (pass_any-within es t k h i)
        ((pass_count-within n (pass S es t) (pass_of es t k h) ∙ ap (pass_count S' n es) (pass-within es t k h)) i) 0)

  -- ---- emitting
  comparisons-within : (cs : List ℕ) (t : Table Val) → TableOf kind kind_at t → comparisons S cs t ≡ comparisons S' cs t
  comparisons-within [] t h = refl
  comparisons-within (c ∷ cs) t h =
      λ i. of_column c (collect-within E (kind_at c) (t c) (h c) i) ++ comparisons-within cs t h i

  module _ (t : Table Val) (h : TableOf kind kind_at t) where
    kept_equalities-within : (es : List (ℕ × ℕ × ℕ)) → kept_equalities S t es ≡ kept_equalities S' t es
    kept_equalities-within [] = refl
    kept_equalities-within (e ∷ es) =
        λ i. cond (is_fixed (fixed_value-within E (kind_at e.0) (t e.0) (h e.0) i)) (kept_equalities-within es i)
        (e.2 ∷ kept_equalities-within es i)

    dropped_equality-within : (es : List (ℕ × ℕ × ℕ)) → dropped_equality S t es ≡ dropped_equality S' t es
    dropped_equality-within [] = refl
    dropped_equality-within (e ∷ es) =
        λ i. is_fixed (fixed_value-within E (kind_at e.0) (t e.0) (h e.0) i) || dropped_equality-within es i

  module _ (s : Collected Val) (h : CollectedOf kind kind_at s) where
    propagated-within : propagated S s ≡ propagated S' s
    propagated-within = propagate-within s.edges h.1 (length s.order) s.constraints h.0

    propagated-of : TableOf kind kind_at (propagated S s)
    propagated-of = propagate-of s.edges h.1 (length s.order) s.constraints h.0

    resolved-within : resolved S s ≡ resolved S' s
    resolved-within =
        λ i c. (resolve_deferred-within E (kind_at c) (propagated S s c) (propagated-of c)
        ∙ ap (λ t. resolve_deferred S' (t c)) propagated-within) i

    written-within : comparisons S s.order (resolved S s) ≡ comparisons S' s.order (resolved S' s)
    written-within =
        comparisons-within s.order (resolved S s)
        (λ c. resolve_deferred-of E (kind_at c) (propagated S s c) (propagated-of c))
        ∙ ap (comparisons S' s.order) resolved-within

    rewrites-within : rewrites S s ≡ rewrites S' s
    rewrites-within =
        λ i. ltb (length (written-within i)) s.bound_conjuncts
        || (s.normalized
        || (propagate_emitted-within s.edges h.1 (length s.order) s.constraints h.0 i
        || (dropped_equality-within (propagated S s) propagated-of s.edges
        ∙ ap (λ t. dropped_equality S' t s.edges) propagated-within) i))

    rebuilt-within : rebuilt S s ≡ rebuilt S' s
    rebuilt-within =
        λ i. Rebuilt (s.opaque ++ (kept_equalities-within (propagated S s) propagated-of s.edges
        ∙ ap (λ t. kept_equalities S' t s.edges) propagated-within) i) (written-within i)

    pub conclude-within : conclude S s ≡ conclude S' s
    conclude-within =
        λ i. cond (s.unsat || any_unsat s.order (resolved-within i)) NothingPasses
        (cond (rewrites-within i) (rebuilt-within i) Unchanged)

    pub passes_of-within : passes_of S s ≡ passes_of S' s
    passes_of-within =
        λ i. cond s.unsat 0 (cond (is_empty s.edges) 0
        (pass_count-within s.edges h.1 (length s.order) s.constraints h.0 i))

  -- ---- all of it
  begin-of : CollectedOf kind kind_at begin
  begin-of = (λ c. (empty, refl), tt)

  pub merge_within : (l : List (Conjunct Val)) → ConjunctsHave kind kind_at l →
      merge_filter_constraints S l ≡ merge_filter_constraints S' l
  merge_within l g =
      conclude-within (collect S l begin) (collect_all_of l begin g begin-of)
      ∙ ap (conclude S') (collect_all_within l begin g begin-of)

  pub passes-within : (l : List (Conjunct Val)) → ConjunctsHave kind kind_at l → merge_passes S l ≡ merge_passes S' l
  passes-within l g =
      passes_of-within (collect S l begin) (collect_all_of l begin g begin-of)
      ∙ ap (passes_of S') (collect_all_within l begin g begin-of)

-- Values of several kinds taken to two kinds of values that compare alike within each kind.
pub translated_within : {K K' A B C T : Type 0} {S : Scalars K B} {S' : Scalars K' C} {f : A → B} {g : A → C} {kind : A → T}
    (F : Carries S f) (G : Carries S' g) → SameWithin kind (along F) (along G) → (kind_at : ℕ → T)
    (l : List (Conjunct A)) → ConjunctsHave kind kind_at l → Translated S S' f g l
translated_within F G E kind_at l h = translates F G l (merge_within E kind_at l h) (passes-within E kind_at l h)
