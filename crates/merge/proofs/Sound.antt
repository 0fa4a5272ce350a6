-- A screen as a list of conjuncts, its rewriting, and that rewriting keeps which rows pass.
use Rattle.merge.specs.Passes.{pass_times}
use mathlib.Core.Path.{◌≡◌, refl, sym, ◌∙◌, ap, subst}
use mathlib.Core.Bool.{Bool, true, false, not, ◌&&◌, ◌||◌, cond, true≢false, and-eq-true_iff}
use mathlib.Core.List.{List, [], ◌∷◌, ◌++◌}
use mathlib.Core.Option.{Option, none, some}
use mathlib.Core.Logic.{◌⊎◌, inl, inr, ◌↔◌}
use Prim.Native.Nat.{ℕ, zero}
use native.Mathlib.Omega.{arith}
use lib.Dec.{eqb}
use lib.ListN.{length}
use Rattle.records.proofs.Laws.{and_left}
use Rattle.constraints.proofs.Bounds.{SameBound, same-clears, same-of_still}
use Rattle.constraints.proofs.Columns.{add-is_intersection, add_all-emitted, add_all-is_intersection, add_all-live}
use Rattle.constraints.proofs.Columns.{add_all-recorded, admits, admits_emitted, admits_recorded, obeys, obeys_all}
use Rattle.constraints.proofs.Columns.{obeys_emitted_all, obeys_recorded_all}
use Rattle.constraints.proofs.Merges.{obeys_all_lem, or_no}
use Rattle.constraints.proofs.Resolved.{collected-is_exact, comparison_true, comparisons_true, fixed_excludes_nothing}
use Rattle.constraints.proofs.Resolved.{resolve_emitted, resolve_live}
use Rattle.constraints.proofs.Resolves.{fixed_at_lem, fixed_lower, resolve_is_exact}
use Rattle.constraints.specs.Bound.{Bound, absent, at, clears, is_absent}
use Rattle.constraints.specs.Column.{ColumnConstraints, Constraint, Require, add, add_all, empty}
use Rattle.constraints.specs.Comparisons.{ColumnComparison, collect_column_comparisons}
use Rattle.constraints.specs.Resolve.{fixed_at}
use Rattle.constraints.specs.Scalars.{Scalars, opposite}
use Rattle.constraints.specs.Values.{contains, is_empty}
use Rattle.constraints.specs.declared.column.Nullability.TheVariants.{NonNull}
use Rattle.merge.proofs.Passes.{EdgesIn, In, eqb-path, eqb-self, propagate-quiet}
use Rattle.merge.proofs.Spread.{AdmitsAll, AllEndsAgree, EndsAgree, Linked, Links, pass-admits, pass-emitted}
use Rattle.merge.proofs.Spread.{pass-fix, pass-live, pass_times-admits, pass_times-emitted, pass_times-live}
use Rattle.merge.specs.Classify.{Bounds, Conjunct, Equality, NonNullPair, Normalized, Opaque, Recorded}
use Rattle.merge.specs.Collect.{Collected, Table, add_to, begin, collect, collect_one, enter, is_in}
use Rattle.merge.specs.Collect.{require_non_null, update}
use Rattle.merge.specs.Emit.{NothingPasses, Outcome, Rebuilt, Unchanged, any_unsat, comparisons, is_fixed}
use Rattle.merge.specs.Emit.{kept_equalities, merge_filter_constraints, of_column, propagated}
use Rattle.merge.specs.Emit.{resolved, rewrites}
use Rattle.merge.specs.Propagate.{pass, pass_any, propagate}

-- The nodes kept, with that of an equality whose left column's fixed value is o.
abbrev pub kept_by : {Val : Type 0} → Option Val → ℕ → List ℕ → List ℕ
kept_by o n l = cond (is_fixed o) l (n ∷ l)

module _ {K Val : Type 0} (S : Scalars K Val) where
  module _ (ρ : ℕ → Option K) (N : ℕ → Bool) where
    abbrev pub Some : ℕ → Type 0
    Some c = (k : K) × (ρ c ≡ some k)

    -- what a conjunct is to mean
    abbrev pub Fair : Conjunct Val → Type 0
    Fair (Bounds c l) = (x : Option K) → obeys_recorded_all S l x ≡ true
    Fair (Normalized c l) = (x : Option K) → obeys_recorded_all S l x ≡ true
    Fair (Equality a b n) = (N n ≡ true) ↔ Linked S ρ a b
    Fair (Recorded z n c l) = N n ≡ true → obeys_all S l (ρ c) ≡ true
    Fair (NonNullPair n a b) = N n ≡ true → Some a × Some b
    Fair (Opaque n) = Unit {0}

    abbrev pub FairAll : List (Conjunct Val) → Type 0
    FairAll [] = Unit {0}
    FairAll (c ∷ l) = Fair c × FairAll l

    abbrev pub Holds : Conjunct Val → Type 0
    Holds (Bounds c l) = obeys_all S l (ρ c) ≡ true
    Holds (Normalized c l) = obeys_all S l (ρ c) ≡ true
    Holds (Equality a b n) = N n ≡ true
    Holds (Recorded z n c l) = N n ≡ true
    Holds (NonNullPair n a b) = N n ≡ true
    Holds (Opaque n) = N n ≡ true

    abbrev pub HoldsAll : List (Conjunct Val) → Type 0
    HoldsAll [] = Unit {0}
    HoldsAll (c ∷ l) = Holds c × HoldsAll l

    abbrev pub NodesTrue : List ℕ → Type 0
    NodesTrue [] = Unit {0}
    NodesTrue (n ∷ l) = (N n ≡ true) × NodesTrue l

    abbrev pub WrittenTrue : List (ℕ × ColumnComparison Val) → Type 0
    WrittenTrue [] = Unit {0}
    WrittenTrue (x ∷ l) = (comparison_true S x.1 (ρ x.0) ≡ true) × WrittenTrue l

    abbrev pub Sound : List (Conjunct Val) → Outcome Val → Type 0
    Sound l Unchanged = Unit {0}
    Sound l NothingPasses = HoldsAll l → ⊥
    Sound l (Rebuilt ns cs) = HoldsAll l ↔ (NodesTrue ns × WrittenTrue cs)

-- ---- lemmas
pub and_both : (a b : Bool) → a ≡ true → b ≡ true → (a && b) ≡ true
and_both a b h k = ap (λ x. x && b) h ∙ k

pub live_of : (u r : Bool) → (not u && r) ≡ true → (u ≡ false) × (r ≡ true)
live_of true r h = absurd (true≢false (sym h))
live_of false r h = (refl, h)

module _ {K Val : Type 0} (S : Scalars K Val) where
  pub upd_ind : (P : ℕ → ColumnConstraints Val → Type 0) (t : Table Val) (c : ℕ) (q : ColumnConstraints Val) →
      ((d : ℕ) → P d (t d)) → P c q → (d : ℕ) → P d (update t c q d)
  upd_ind P t c q h k d = go (eqb c d) refl
    where
      go : (b : Bool) → eqb c d ≡ b → P d (cond b q (t d))
      go true e = subst (λ x. P x q) (eqb-path c d e) k
      go false e = h d

  pub upd_self : (t : Table Val) (c : ℕ) (q : ColumnConstraints Val) → update t c q c ≡ q
  upd_self t c q = ap (λ b. cond b q (t c)) (eqb-self c)

  in_left : (c : ℕ) (l m : List ℕ) → In S c l → In S c (l ++ m)
  in_left c [] m i = absurd i
  in_left c (d ∷ l) m (inl e) = inl e
  in_left c (d ∷ l) m (inr i) = inr (in_left c l m i)

  in_last : (c : ℕ) (l : List ℕ) → In S c (l ++ (c ∷ []))
  in_last c [] = inl refl
  in_last c (d ∷ l) = inr (in_last c l)

  pub is_in-in : (c : ℕ) (l : List ℕ) → is_in c l ≡ true → In S c l
  is_in-in c [] h = absurd (true≢false (sym h))
  is_in-in c (d ∷ l) h = go (eqb c d) refl h (is_in-in c l)
    where
      go : (b : Bool) → eqb c d ≡ b → (b || is_in c l) ≡ true → (is_in c l ≡ true → In S c l) → In S c (d ∷ l)
      go true e h ih = inl (eqb-path c d e)
      go false e h ih = inr (ih h)

  pub in_enter : (c d : ℕ) (l : List ℕ) → In S c l → In S c (enter d l)
  in_enter c d l i = go (is_in d l)
    where
      go : (b : Bool) → In S c (cond b l (l ++ (d ∷ [])))
      go true = i
      go false = in_left c l (d ∷ []) i

  pub enter-in : (c : ℕ) (l : List ℕ) → In S c (enter c l)
  enter-in c l = go (is_in c l) refl
    where
      go : (b : Bool) → is_in c l ≡ b → In S c (cond b l (l ++ (c ∷ [])))
      go true e = is_in-in c l e
      go false e = in_last c l

  pub edges-grow : (cs ds : List ℕ) (es : List (ℕ × ℕ × ℕ)) → ((c : ℕ) → In S c cs → In S c ds) → EdgesIn S cs es →
      EdgesIn S ds es
  edges-grow cs ds [] g i = tt
  edges-grow cs ds (e ∷ es) g i = ((g e.0 i.0.0, g e.1 i.0.1), edges-grow cs ds es g i.1)

  edges-snoc : (cs : List ℕ) (es : List (ℕ × ℕ × ℕ)) (e : ℕ × ℕ × ℕ) → EdgesIn S cs es →
      In S e.0 cs × In S e.1 cs → EdgesIn S cs (es ++ (e ∷ []))
  edges-snoc cs [] e i j = (j, tt)
  edges-snoc cs (d ∷ es) e i j = (i.0, edges-snoc cs es e i.1 j)

  collect_one-in : (x : Conjunct Val) (s : Collected Val) → EdgesIn S s.order s.edges →
      EdgesIn S (collect_one S x s).order (collect_one S x s).edges
  collect_one-in (Bounds c l) s i = edges-grow s.order (enter c s.order) s.edges
      (λ d. in_enter d c s.order) i
  collect_one-in (Normalized c l) s i = edges-grow s.order (enter c s.order) s.edges
      (λ d. in_enter d c s.order) i
  collect_one-in (Equality a b n) s i = edges-snoc (enter b (enter a s.order)) s.edges (a, b, n)
      (edges-grow s.order (enter b (enter a s.order)) s.edges
      (λ d j. in_enter d b (enter a s.order) (in_enter d a s.order j)) i)
      (in_enter a b (enter a s.order) (enter-in a s.order), enter-in b (enter a s.order))
  collect_one-in (Recorded z n c l) s i = edges-grow s.order (enter c s.order) s.edges
      (λ d. in_enter d c s.order) i
  collect_one-in (NonNullPair n a b) s i = edges-grow s.order (enter b (enter a s.order)) s.edges
      (λ d j. in_enter d b (enter a s.order) (in_enter d a s.order j)) i
  collect_one-in (Opaque n) s i = i

  pub collect-in : (l : List (Conjunct Val)) (s : Collected Val) → EdgesIn S s.order s.edges →
      EdgesIn S (collect S l s).order (collect S l s).edges
  collect-in [] s i = i
  collect-in (x ∷ l) s i = collect-in l (cond s.unsat s (collect_one S x s)) (go s.unsat)
    where
      go : (b : Bool) → EdgesIn S (cond b s (collect_one S x s)).order (cond b s (collect_one S x s)).edges
      go true = i
      go false = collect_one-in x s i

  -- reading stops only at an impossible column
  abbrev Halts : Collected Val → Type 0
  Halts s = s.unsat ≡ true → (c : ℕ) × ((s.constraints c).unsat ≡ true)

  collect_one-halts : (x : Conjunct Val) (s : Collected Val) → Halts (collect_one S x s)
  collect_one-halts (Bounds c l) s h =
      (c, ap (λ q. q.unsat) (upd_self s.constraints c (add_all S l (s.constraints c))) ∙ h)
  collect_one-halts (Normalized c l) s h =
      (c, ap (λ q. q.unsat) (upd_self s.constraints c (add_all S l (s.constraints c))) ∙ h)
  collect_one-halts (Equality a b n) s h = absurd (true≢false (sym h))
  collect_one-halts (Recorded z n c l) s h = (
    c,
    ap (λ q. q.unsat) (upd_self s.constraints c (add_all S l (s.constraints c))) ∙
        ((and-eq-true_iff z (add_all S l (s.constraints c)).unsat).0 h).1,
  )
  collect_one-halts (NonNullPair n a b) s h = absurd (true≢false (sym h))
  collect_one-halts (Opaque n) s h = absurd (true≢false (sym h))

  pub collect-halts : (l : List (Conjunct Val)) (s : Collected Val) → Halts s → Halts (collect S l s)
  collect-halts [] s h = h
  collect-halts (x ∷ l) s h = collect-halts l (cond s.unsat s (collect_one S x s)) (go s.unsat)
    where
      go : (b : Bool) → Halts (cond b s (collect_one S x s))
      go true = h
      go false = collect_one-halts x s

  -- the table that the passes end in
  pub ends : (cs : List ℕ) (es : List (ℕ × ℕ × ℕ)) (t : Table Val) → EdgesIn S cs es →
      (k : ℕ) × (propagate S (length cs) es t ≡ pass S es (pass_times S k es t)) × (pass_any S es (pass_times S k es t) ≡
      false)
  ends [] [] t i = (zero, refl, refl)
  ends [] (e ∷ es) t i = absurd i.0.0
  ends (c ∷ cs) es t i = propagate-quiet S (c ∷ cs) es t i (omega arith)

  module _ (ρ : ℕ → Option K) (N : ℕ → Bool) where
    -- ---- from before to after
    require_non_null-admits : (c : ℕ) (t : Table Val) → Some S ρ N c → AdmitsAll S ρ t →
        AdmitsAll S ρ (require_non_null S c t)
    require_non_null-admits c t p h = upd_ind (λ d q. admits S q (ρ d) ≡ true) t c (add S (Require NonNull) (t c)) h
        (add-is_intersection S (Require NonNull) (t c) (ρ c) ∙
        and_both (admits S (t c) (ρ c)) (obeys S (Require NonNull) (ρ c)) (h c)
        (ap (obeys S (Require NonNull)) p.1))

    add_to-admits : (c : ℕ) (l : List (Constraint Val)) (t : Table Val) → obeys_all S l (ρ c) ≡ true → AdmitsAll S ρ t →
        AdmitsAll S ρ (add_to S c l t)
    add_to-admits c l t p h = upd_ind (λ d q. admits S q (ρ d) ≡ true) t c (add_all S l (t c)) h
        (add_all-is_intersection S l (t c) (ρ c) ∙ and_both (admits S (t c) (ρ c)) (obeys_all S l (ρ c)) (h c) p)

    collect_one-admits : (x : Conjunct Val) (s : Collected Val) → Fair S ρ N x → Holds S ρ N x →
        AdmitsAll S ρ s.constraints → AdmitsAll S ρ (collect_one S x s).constraints
    collect_one-admits (Bounds c l) s f h g = add_to-admits c l s.constraints h g
    collect_one-admits (Normalized c l) s f h g = add_to-admits c l s.constraints h g
    collect_one-admits (Equality a b n) s f h g = let p = f.0 h in
        require_non_null-admits b (require_non_null S a s.constraints) (p.0, p.2)
        (require_non_null-admits a s.constraints (p.0, p.1) g)
    collect_one-admits (Recorded z n c l) s f h g = add_to-admits c l s.constraints (f h) g
    collect_one-admits (NonNullPair n a b) s f h g = require_non_null-admits b (require_non_null S a s.constraints)
        (f h).1 (require_non_null-admits a s.constraints (f h).0 g)
    collect_one-admits (Opaque n) s f h g = g

    collect-admits : (l : List (Conjunct Val)) (s : Collected Val) → FairAll S ρ N l → HoldsAll S ρ N l →
        AdmitsAll S ρ s.constraints → AdmitsAll S ρ (collect S l s).constraints
    collect-admits [] s f h g = g
    collect-admits (x ∷ l) s f h g = collect-admits l (cond s.unsat s (collect_one S x s)) f.1 h.1
        (go s.unsat)
      where
        go : (b : Bool) → AdmitsAll S ρ (cond b s (collect_one S x s)).constraints
        go true = g
        go false = collect_one-admits x s f.0 h.0 g

    -- the equalities, their nodes and what those mean
    abbrev pub EdgesTrue : List (ℕ × ℕ × ℕ) → Type 0
    EdgesTrue [] = Unit {0}
    EdgesTrue (e ∷ es) = (N e.2 ≡ true) × EdgesTrue es

    abbrev EdgesFair : List (ℕ × ℕ × ℕ) → Type 0
    EdgesFair [] = Unit {0}
    EdgesFair (e ∷ es) = ((N e.2 ≡ true) ↔ Linked S ρ e.0 e.1) × EdgesFair es

    true-app : (es fs : List (ℕ × ℕ × ℕ)) → EdgesTrue (es ++ fs) ↔ (EdgesTrue es × EdgesTrue fs)
    true-app [] fs = (λ h. (tt, h), λ h. h.1)
    true-app (e ∷ es) fs = (
      λ h. let r = (true-app es fs).0 h.1 in ((h.0, r.0), r.1),
      λ h. (h.0.0, (true-app es fs).1 (h.0.1, h.1)),
    )

    fair_app : (es fs : List (ℕ × ℕ × ℕ)) → EdgesFair es → EdgesFair fs → EdgesFair (es ++ fs)
    fair_app [] fs h k = k
    fair_app (e ∷ es) fs h k = (h.0, fair_app es fs h.1 k)

    nodes_app : (l m : List ℕ) → NodesTrue S ρ N (l ++ m) ↔ (NodesTrue S ρ N l × NodesTrue S ρ N m)
    nodes_app [] m = (λ h. (tt, h), λ h. h.1)
    nodes_app (n ∷ l) m = (
      λ h. let r = (nodes_app l m).0 h.1 in ((h.0, r.0), r.1),
      λ h. (h.0.0, (nodes_app l m).1 (h.0.1, h.1)),
    )

    links_of : (es : List (ℕ × ℕ × ℕ)) → EdgesFair es → EdgesTrue es → Links S ρ es
    links_of [] f h = tt
    links_of (e ∷ es) f h = (f.0.0 h.0, links_of es f.1 h.1)

    collect_one-fair : (x : Conjunct Val) (s : Collected Val) → Fair S ρ N x → EdgesFair s.edges →
        EdgesFair (collect_one S x s).edges
    collect_one-fair (Bounds c l) s f h = h
    collect_one-fair (Normalized c l) s f h = h
    collect_one-fair (Equality a b n) s f h = fair_app s.edges ((a, b, n) ∷ []) h (f, tt)
    collect_one-fair (Recorded z n c l) s f h = h
    collect_one-fair (NonNullPair n a b) s f h = h
    collect_one-fair (Opaque n) s f h = h

    collect-fair : (l : List (Conjunct Val)) (s : Collected Val) → FairAll S ρ N l → EdgesFair s.edges →
        EdgesFair (collect S l s).edges
    collect-fair [] s f h = h
    collect-fair (x ∷ l) s f h = collect-fair l (cond s.unsat s (collect_one S x s)) f.1 (go s.unsat)
      where
        go : (b : Bool) → EdgesFair (cond b s (collect_one S x s)).edges
        go true = h
        go false = collect_one-fair x s f.0 h

    abbrev pub Kept : Collected Val → Type 0
    Kept s = NodesTrue S ρ N s.opaque × EdgesTrue s.edges

    collect_one-kept : (x : Conjunct Val) (s : Collected Val) → Holds S ρ N x → Kept s → Kept (collect_one S x s)
    collect_one-kept (Bounds c l) s h k = k
    collect_one-kept (Normalized c l) s h k = k
    collect_one-kept (Equality a b n) s h k = (k.0, (true-app s.edges ((a, b, n) ∷ [])).1 (k.1, (h, tt)))
    collect_one-kept (Recorded z n c l) s h k = ((nodes_app s.opaque (n ∷ [])).1 (k.0, (h, tt)), k.1)
    collect_one-kept (NonNullPair n a b) s h k = ((nodes_app s.opaque (n ∷ [])).1 (k.0, (h, tt)), k.1)
    collect_one-kept (Opaque n) s h k = ((nodes_app s.opaque (n ∷ [])).1 (k.0, (h, tt)), k.1)

    collect-kept : (l : List (Conjunct Val)) (s : Collected Val) → HoldsAll S ρ N l → Kept s → Kept (collect S l s)
    collect-kept [] s h k = k
    collect-kept (x ∷ l) s h k = collect-kept l (cond s.unsat s (collect_one S x s)) h.1 (go s.unsat)
      where
        go : (b : Bool) → Kept (cond b s (collect_one S x s))
        go true = k
        go false = collect_one-kept x s h.0 k

    propagated-admits : (s : Collected Val) → EdgesIn S s.order s.edges → Links S ρ s.edges →
        AdmitsAll S ρ s.constraints → AdmitsAll S ρ (propagated S s)
    propagated-admits s i l h = let r = ends s.order s.edges s.constraints i in
        subst (AdmitsAll S ρ) (sym r.1)
        (pass-admits S ρ s.edges (pass_times S r.0 s.edges s.constraints) l
        (pass_times-admits S ρ r.0 s.edges s.constraints l h))

    resolved-admits : (s : Collected Val) → AdmitsAll S ρ (propagated S s) → AdmitsAll S ρ (resolved S s)
    resolved-admits s h c = resolve_is_exact S (propagated S s c) (ρ c) ∙ h c

    not-unsat : (cs : List ℕ) (t : Table Val) → AdmitsAll S ρ t → any_unsat cs t ≡ false
    not-unsat [] t h = refl
    not-unsat (c ∷ cs) t h = ap (λ b. b || any_unsat cs t)
        (live_of (t c).unsat (admits_emitted S (t c) (ρ c) && admits_recorded S (t c) (ρ c)) (h c)).0 ∙
        not-unsat cs t h

    -- ---- the comparisons written out
    comparisons-append : (l m : List (ℕ × ColumnComparison Val)) →
        WrittenTrue S ρ N (l ++ m) ↔ (WrittenTrue S ρ N l × WrittenTrue S ρ N m)
    comparisons-append [] m = (λ h. (tt, h), λ h. h.1)
    comparisons-append (x ∷ l) m = (
      λ h. let r = (comparisons-append l m).0 h.1 in ((h.0, r.0), r.1),
      λ h. (h.0.0, (comparisons-append l m).1 (h.0.1, h.1)),
    )

    of_column-true : (c : ℕ) (l : List (ColumnComparison Val)) →
        WrittenTrue S ρ N (of_column c l) ↔ (comparisons_true S l (ρ c) ≡ true)
    of_column-true c [] = (λ h. refl, λ h. tt)
    of_column-true c (x ∷ l) = (
      λ h. and_both (comparison_true S x (ρ c)) (comparisons_true S l (ρ c)) h.0
          ((of_column-true c l).0 h.1),
      λ h. let r = (and-eq-true_iff (comparison_true S x (ρ c))
          (comparisons_true S l (ρ c))).0 h in (r.0, (of_column-true c l).1 r.1),
    )

    comparisons-true : (cs : List ℕ) (t : Table Val) → WrittenTrue S ρ N (comparisons S cs t) ↔
        ((c : ℕ) → In S c cs → comparisons_true S (collect_column_comparisons S (t c)) (ρ c) ≡ true)
    comparisons-true [] t = (λ h c i. absurd i, λ h. tt)
    comparisons-true (d ∷ cs) t = (
      there (comparisons-true cs t).0,
      λ h. (comparisons-append
          (of_column d (collect_column_comparisons S (t d))) (comparisons S cs t)).1 (
            (of_column-true d (collect_column_comparisons S (t d))).1 (h d (inl refl)),
            (comparisons-true cs t).1
                (λ c i. h c (inr i)),
          ),
    )
      where
        there : (WrittenTrue S ρ N (comparisons S cs t) → (c : ℕ) → In S c cs →
            comparisons_true S (collect_column_comparisons S (t c)) (ρ c) ≡ true) →
            WrittenTrue S ρ N (comparisons S (d ∷ cs) t) → (c : ℕ) → In S c (d ∷ cs) →
            comparisons_true S (collect_column_comparisons S (t c)) (ρ c) ≡ true
        there ih h c i = go i
          where
            r : WrittenTrue S ρ N (of_column d (collect_column_comparisons S (t d))) × WrittenTrue S ρ N
                (comparisons S cs t)
            r = (comparisons-append (of_column d (collect_column_comparisons S (t d))) (comparisons S cs t)).0 h

            go : (c ≡ d) ⊎ In S c cs → comparisons_true S (collect_column_comparisons S (t c)) (ρ c) ≡ true
            go (inl e) = subst (λ y. comparisons_true S (collect_column_comparisons S (t y)) (ρ y) ≡ true) (sym e)
                ((of_column-true d (collect_column_comparisons S (t d))).0 r.0)
            go (inr j) = ih r.1 c j

    comparisons-resolved : (s : Collected Val) (c : ℕ) →
        comparisons_true S (collect_column_comparisons S (resolved S s c)) (ρ c) ≡ admits_emitted S (resolved S s c) (ρ c)
    comparisons-resolved s c = collected-is_exact S (resolved S s c) (ρ c)
        (fixed_excludes_nothing S (propagated S s c))

    kept_of : (t : Table Val) (es : List (ℕ × ℕ × ℕ)) → EdgesTrue es → NodesTrue S ρ N (kept_equalities S t es)
    kept_of t [] h = tt
    kept_of t (e ∷ es) h = go (fixed_at S (t e.0).lower (t e.0).upper) (kept_of t es h.1)
      where
        go : (o : Option Val) → NodesTrue S ρ N (kept_equalities S t es) →
            NodesTrue S ρ N (kept_by o e.2 (kept_equalities S t es))
        go none k = (h.0, k)
        go (some v) k = k

    -- ---- from after to before
    pub record Grows (s f : Collected Val) : Type 0 where
      pub ord : (c : ℕ) → In S c s.order → In S c f.order
      pub kep : Kept f → Kept s
      pub alive : (c : ℕ) → (f.constraints c).unsat ≡ false → (s.constraints c).unsat ≡ false
      pub sho : (c : ℕ) → (f.constraints c).unsat ≡ false → admits_emitted S (f.constraints c) (ρ c) ≡ true →
          admits_emitted S (s.constraints c) (ρ c) ≡ true
      pub min : (c : ℕ) → (f.constraints c).unsat ≡ false → admits_recorded S (f.constraints c) (ρ c) ≡ true →
          admits_recorded S (s.constraints c) (ρ c) ≡ true

    grows_refl : (s : Collected Val) → Grows s s
    grows_refl s = record { ord = λ c i. i; kep = λ k. k; alive = λ c h. h; sho = λ c f h. h; min = λ c f h. h }

    grows_trans : (s u f : Collected Val) → Grows s u → Grows u f → Grows s f
    grows_trans s u f g h = record {
      ord = λ c i. h.ord c (g.ord c i);
      kep = λ k. g.kep (h.kep k);
      alive =
          λ c x. g.alive c (h.alive c x);
      sho = λ c x y. g.sho c (h.alive c x) (h.sho c x y);
      min =
          λ c x y. g.min c (h.alive c x) (h.min c x y);
    }

    abbrev pub Tighter : Table Val → Table Val → Type 0
    Tighter t u = (c : ℕ) → ((u c).unsat ≡ false → (t c).unsat ≡ false) ×
        ((u c).unsat ≡ false → admits_emitted S (u c) (ρ c) ≡ true → admits_emitted S (t c) (ρ c) ≡ true) ×
        ((u c).unsat ≡ false → admits_recorded S (u c) (ρ c) ≡ true → admits_recorded S (t c) (ρ c) ≡ true)

    pub add_to-tighter : (c : ℕ) (l : List (Constraint Val)) (t : Table Val) → Tighter t (add_to S c l t)
    add_to-tighter c l t = upd_ind (λ d q. (q.unsat ≡ false → (t d).unsat ≡ false) ×
        (q.unsat ≡ false → admits_emitted S q (ρ d) ≡ true → admits_emitted S (t d) (ρ d) ≡ true) ×
        (q.unsat ≡ false → admits_recorded S q (ρ d) ≡ true → admits_recorded S (t d) (ρ d) ≡ true)) t c
        (add_all S l (t c)) (λ d. (λ h. h, λ f h. h, λ f h. h)) (
          λ h. add_all-live S l (t c) h,
          λ f h. and_left (admits_emitted S (t c) (ρ c)) (obeys_emitted_all S l (ρ c))
              (sym (add_all-emitted S l (t c) (ρ c) f) ∙ h),
          λ f h. and_left (admits_recorded S (t c) (ρ c))
              (obeys_recorded_all S l (ρ c)) (sym (add_all-recorded S l (t c) (ρ c) f) ∙ h),
        )

    pub collect_one-grows : (x : Conjunct Val) (s : Collected Val) → Grows s (collect_one S x s)
    collect_one-grows (Bounds c l) s = let t = add_to-tighter c l s.constraints in
        record {
          ord = λ d i. in_enter d c s.order i;
          kep = λ k. k;
          alive = λ d. (t d).0;
          sho = λ d. (t d).1;
          min =
              λ d. (t d).2;
        }
    collect_one-grows (Normalized c l) s = let t = add_to-tighter c l s.constraints in
        record {
          ord = λ d i. in_enter d c s.order i;
          kep = λ k. k;
          alive = λ d. (t d).0;
          sho = λ d. (t d).1;
          min =
              λ d. (t d).2;
        }
    collect_one-grows (Equality a b n) s = let t = add_to-tighter a (Require NonNull ∷ []) s.constraints in let u =
        add_to-tighter b (Require NonNull ∷ []) (require_non_null S a s.constraints) in
        record {
          ord = λ d i. in_enter d b (enter a s.order) (in_enter d a s.order i);
          kep =
              λ k. (k.0, ((true-app s.edges ((a, b, n) ∷ [])).0 k.1).0);
          alive = λ d f. (t d).0 ((u d).0 f);
          sho =
              λ d f h. (t d).1 ((u d).0 f) ((u d).1 f h);
          min = λ d f h. (t d).2 ((u d).0 f) ((u d).2 f h);
        }
    collect_one-grows (Recorded z n c l) s = let t = add_to-tighter c l s.constraints in
        record {
          ord = λ d i. in_enter d c s.order i;
          kep =
              λ k. (((nodes_app s.opaque (n ∷ [])).0 k.0).0, k.1);
          alive = λ d. (t d).0;
          sho = λ d. (t d).1;
          min =
              λ d. (t d).2;
        }
    collect_one-grows (NonNullPair n a b) s = let t = add_to-tighter a (Require NonNull ∷ []) s.constraints in
        let u = add_to-tighter b (Require NonNull ∷ []) (require_non_null S a s.constraints) in
        record {
          ord = λ d i. in_enter d b (enter a s.order) (in_enter d a s.order i);
          kep =
              λ k. (((nodes_app s.opaque (n ∷ [])).0 k.0).0, k.1);
          alive = λ d f. (t d).0 ((u d).0 f);
          sho =
              λ d f h. (t d).1 ((u d).0 f) ((u d).1 f h);
          min = λ d f h. (t d).2 ((u d).0 f) ((u d).2 f h);
        }
    collect_one-grows (Opaque n) s =
        record {
          ord = λ d i. i;
          kep = λ k. (((nodes_app s.opaque (n ∷ [])).0 k.0).0, k.1);
          alive =
              λ d f. f;
          sho = λ d f h. h;
          min = λ d f h. h;
        }

    pub collect-grows : (l : List (Conjunct Val)) (s : Collected Val) → Grows s (collect S l s)
    collect-grows [] s = grows_refl s
    collect-grows (x ∷ l) s = grows_trans s (cond s.unsat s (collect_one S x s))
        (collect S l (cond s.unsat s (collect_one S x s)))
        (go s.unsat) (collect-grows l (cond s.unsat s (collect_one S x s)))
      where
        go : (b : Bool) → Grows s (cond b s (collect_one S x s))
        go true = grows_refl s
        go false = collect_one-grows x s

    pub collect-going : (l : List (Conjunct Val)) (s : Collected Val) → (collect S l s).unsat ≡ false → s.unsat ≡
        false
    collect-going [] s h = h
    collect-going (x ∷ l) s h = go s.unsat refl (collect-going l (cond s.unsat s (collect_one S x s)) h)
      where
        go : (b : Bool) → s.unsat ≡ b → (cond b s (collect_one S x s)).unsat ≡ false → b ≡ false
        go true e g = sym e ∙ g
        go false e g = refl

    -- what the end must still say
    abbrev Left : Collected Val → Type 0
    Left f = Kept f × ((c : ℕ) → In S c f.order →
        ((f.constraints c).unsat ≡ false) × (admits_emitted S (f.constraints c) (ρ c) ≡ true))

    -- what was told to a column of bounds is true of its value
    bounds-back : (c : ℕ) (l : List (Constraint Val)) (s f : Collected Val) →
        ((x : Option K) → obeys_recorded_all S l x ≡ true) →
        ((f.constraints c).unsat ≡ false → (add_to S c l s.constraints c).unsat ≡ false) →
        ((f.constraints c).unsat ≡ false → admits_emitted S (f.constraints c) (ρ c) ≡ true →
        admits_emitted S (add_to S c l s.constraints c) (ρ c) ≡ true) → In S c f.order → Left f →
        obeys_all S l (ρ c) ≡ true
    bounds-back c l s f fa alive shows i k =
        let r = k.1 c i in
        let p : update s.constraints c (add_all S l (s.constraints c)) c ≡ add_all S l (s.constraints c) =
        upd_self s.constraints c (add_all S l (s.constraints c)) in
        let a : (add_all S l (s.constraints c)).unsat ≡ false = subst (λ q. q.unsat ≡ false) p (alive r.0) in
        let h : admits_emitted S (add_all S l (s.constraints c)) (ρ c) ≡ true =
        subst (λ q. admits_emitted S q (ρ c) ≡ true) p (shows r.0 r.1) in
        obeys_all_lem S l (ρ c) ∙ and_both (obeys_emitted_all S l (ρ c)) (obeys_recorded_all S l (ρ c))
        ((and-eq-true_iff (admits_emitted S (s.constraints c) (ρ c)) (obeys_emitted_all S l (ρ c))).0
        (sym (add_all-emitted S l (s.constraints c) (ρ c) a) ∙ h)).1 (fa (ρ c))

    collect_one-back : (x : Conjunct Val) (s f : Collected Val) → Fair S ρ N x → Grows (collect_one S x s) f → Left f →
        Holds S ρ N x
    collect_one-back (Bounds c l) s f fa g k =
        bounds-back c l s f fa (g.alive c) (g.sho c) (g.ord c (enter-in c s.order)) k
    collect_one-back (Normalized c l) s f fa g k =
        bounds-back c l s f fa (g.alive c) (g.sho c) (g.ord c (enter-in c s.order)) k
    collect_one-back (Equality a b n) s f fa g k = ((true-app s.edges ((a, b, n) ∷ [])).0 (g.kep k.0).1).1.0
    collect_one-back (Recorded z n c l) s f fa g k = ((nodes_app s.opaque (n ∷ [])).0 (g.kep k.0).0).1.0
    collect_one-back (NonNullPair n a b) s f fa g k = ((nodes_app s.opaque (n ∷ [])).0 (g.kep k.0).0).1.0
    collect_one-back (Opaque n) s f fa g k = ((nodes_app s.opaque (n ∷ [])).0 (g.kep k.0).0).1.0

    collect-back : (l : List (Conjunct Val)) (s : Collected Val) → FairAll S ρ N l → (collect S l s).unsat ≡ false →
        Left (collect S l s) → HoldsAll S ρ N l
    collect-back [] s f h k = tt
    collect-back (x ∷ l) s f h k = go s.unsat (collect-going (x ∷ l) s h) h k
        (collect-back l (cond s.unsat s (collect_one S x s)) f.1 h k)
      where
        go : (b : Bool) → b ≡ false → (collect S l (cond b s (collect_one S x s))).unsat ≡ false →
            Left (collect S l (cond b s (collect_one S x s))) → HoldsAll S ρ N l → Holds S ρ N x × HoldsAll S ρ N l
        go true e h k r = absurd (true≢false e)
        go false e h k r = (
          collect_one-back x s (collect S l (collect_one S x s)) f.0
              (collect-grows l (collect_one S x s)) k,
          r,
        )

    -- ---- a dropped equality
    same-absent : (a b : Bound Val) (P : Scalars K Val) → SameBound P a b → is_absent a ≡ is_absent b
    same-absent absent absent P s = refl
    same-absent absent (at d w) P s = absurd s
    same-absent (at c v) absent P s = absurd s
    same-absent (at c v) (at d w) P s = refl

    -- the value of a column that has the bounds of a pinned one
    fixed_value_lem : (q r : ColumnConstraints Val) (v : Val) → fixed_at S q.lower q.upper ≡ some v →
        SameBound S q.lower r.lower → SameBound (opposite S) q.upper r.upper → (x : Option K) →
        admits_emitted S r x ≡ true → x ≡ some (S.key v)
    fixed_value_lem q r v e sl su none h =
        absurd (true≢false (sym h ∙ ap (λ b. b && (is_absent r.upper && is_empty r.excluded))
        (sym (same-absent q.lower r.lower S sl) ∙ fixed_lower S q.lower q.upper v e)))
    fixed_value_lem q r v e sl su (some k) h = go (fixed_at_lem S q.lower q.upper v e k)
        ((and-eq-true_iff (clears S r.lower k)
        (clears (opposite S) r.upper k && not (contains S k r.excluded))).0 h)
      where
        go : ((clears S q.lower k && clears (opposite S) q.upper k) ≡ false) ⊎ (k ≡ S.key v) →
            (clears S r.lower k ≡ true) × ((clears (opposite S) r.upper k && not (contains S k r.excluded)) ≡
            true) → some k ≡ some (S.key v)
        go (inl z) p = absurd (true≢false
            (sym (and_both (clears S q.lower k) (clears (opposite S) q.upper k)
            (same-clears S q.lower r.lower sl k ∙ p.0) (same-clears (opposite S) q.upper r.upper su k ∙
            and_left (clears (opposite S) r.upper k) (not (contains S k r.excluded)) p.1)) ∙ z))
        go (inr p) h = ap some p

    same_self : (P : Scalars K Val) (a : Bound Val) → SameBound P a a
    same_self P absent = tt
    same_self P (at c v) = (refl, refl)

    edge-back : (t : Table Val) (a b : ℕ) (v : Val) → fixed_at S (t a).lower (t a).upper ≡ some v →
        EndsAgree S a b t → admits_emitted S (t a) (ρ a) ≡ true → admits_emitted S (t b) (ρ b) ≡ true → Linked S ρ a b
    edge-back t a b v e g ha hb = (S.key v, pa, go g)
      where
        pa : ρ a ≡ some (S.key v)
        pa = fixed_value_lem (t a) (t a) v e (same_self S (t a).lower) (same_self (opposite S) (t a).upper) (ρ a) ha

        go : EndsAgree S a b t → ρ b ≡ some (S.key v)
        go (inl p) = subst (λ c. ρ c ≡ some (S.key v)) p pa
        go (inr p) = fixed_value_lem (t a) (t b) v e (same-of_still S (t a).lower (t b).lower p.0.lo p.1.lo)
            (same-of_still (opposite S) (t a).upper (t b).upper p.0.hi p.1.hi) (ρ b) hb

    edges-back : (cs : List ℕ) (t : Table Val) (es : List (ℕ × ℕ × ℕ)) → EdgesIn S cs es → EdgesFair es →
        AllEndsAgree S es t → ((c : ℕ) → In S c cs → admits_emitted S (t c) (ρ c) ≡ true) →
        NodesTrue S ρ N (kept_equalities S t es) → EdgesTrue es
    edges-back cs t [] i f g h n = tt
    edges-back cs t (e ∷ es) i f g h n = go (fixed_at S (t e.0).lower (t e.0).upper) refl n
        (λ m. edges-back cs t es i.1 f.1 g.1 h m)
      where
        go : (o : Option Val) → fixed_at S (t e.0).lower (t e.0).upper ≡ o →
            NodesTrue S ρ N (kept_by o e.2 (kept_equalities S t es)) →
            (NodesTrue S ρ N (kept_equalities S t es) → EdgesTrue es) → (N e.2 ≡ true) × EdgesTrue es
        go none p n ih = (n.0, ih n.1)
        go (some v) p n ih = (
          f.0.1 (edge-back t e.0 e.1 v p g.0 (h e.0 i.0.0)
              (h e.1 i.0.1)),
          ih n,
        )

    pub unsat-none : (cs : List ℕ) (t : Table Val) → any_unsat cs t ≡ false → (c : ℕ) → In S c cs → (t c).unsat ≡ false
    unsat-none [] t h c i = absurd i
    unsat-none (d ∷ cs) t h c i = go i (or_no (t d).unsat (any_unsat cs t) h) (λ x. unsat-none cs t x c)
      where
        go : (c ≡ d) ⊎ In S c cs → ((t d).unsat ≡ false) × (any_unsat cs t ≡ false) →
            (any_unsat cs t ≡ false → In S c cs → (t c).unsat ≡ false) → (t c).unsat ≡ false
        go (inl e) n ih = subst (λ y. (t y).unsat ≡ false) (sym e) n.0
        go (inr j) n ih = ih n.1 j

    -- what is left at the end
    conclude-left : (s : Collected Val) → EdgesIn S s.order s.edges → EdgesFair s.edges →
        any_unsat s.order (resolved S s) ≡ false →
        NodesTrue S ρ N (s.opaque ++ kept_equalities S (propagated S s) s.edges) →
        WrittenTrue S ρ N (comparisons S s.order (resolved S s)) → Left s
    conclude-left s i f d n w =
        let r = ends s.order s.edges s.constraints i in
        let live : (c : ℕ) → In S c s.order → (propagated S s c).unsat ≡ false =
        λ c j. (resolve_live S (propagated S s c) (unsat-none s.order (resolved S s) d c j)).0 in
        let sh : (c : ℕ) → In S c s.order → admits_emitted S (propagated S s c) (ρ c) ≡ true =
        λ c j. sym (resolve_emitted S (propagated S s c) (ρ c) (unsat-none s.order (resolved S s) d c j)) ∙
        sym (comparisons-resolved s c) ∙ (comparisons-true s.order (resolved S s)).0 w c j in
        let live' : (c : ℕ) → In S c s.order → (pass S s.edges (pass_times S r.0 s.edges s.constraints)
        c).unsat ≡ false = λ c j. subst (λ t. (t c).unsat ≡ false) r.1 (live c j) in
        let sh' : (c : ℕ) → In S c s.order →
        admits_emitted S (pass S s.edges (pass_times S r.0 s.edges s.constraints) c) (ρ c) ≡ true =
        λ c j. subst (λ t. admits_emitted S (t c) (ρ c) ≡ true) r.1 (sh c j) in
        let p = pass-fix S s.order s.edges (pass_times S r.0 s.edges s.constraints) i r.2 live' in
        let g : AllEndsAgree S s.edges (propagated S s) = subst (AllEndsAgree S s.edges) (sym (r.1 ∙ p.0))
        p.1 in
        let m = (nodes_app s.opaque (kept_equalities S (propagated S s) s.edges)).0 n in (
          (m.0, edges-back s.order (propagated S s) s.edges i f g sh m.1),
          λ c j. (
            pass_times-live S r.0 s.edges s.constraints c
                (pass-live S s.edges (pass_times S r.0 s.edges s.constraints) c (live' c j)),
            pass_times-emitted S
                r.0 s.edges s.constraints c (ρ c)
                (pass-live S s.edges (pass_times S r.0 s.edges s.constraints) c (live' c j))
                (pass-emitted S s.edges (pass_times S r.0 s.edges s.constraints) c (ρ c) (live' c j)
                (sh' c j)),
          ),
        )

    -- ---- rewriting keeps which rows pass
    begin-admits : AdmitsAll S ρ begin.constraints
    begin-admits c = go (ρ c)
      where
        go : (x : Option K) → admits S empty x ≡ true
        go none = refl
        go (some k) = refl

    -- where a row holds, no column is impossible, neither while reading nor at the end
    pub held-admits : (l : List (Conjunct Val)) → FairAll S ρ N l → HoldsAll S ρ N l →
        AdmitsAll S ρ (collect S l begin).constraints
    held-admits l f h = collect-admits l begin f h begin-admits

    held-resolved : (l : List (Conjunct Val)) → FairAll S ρ N l → HoldsAll S ρ N l →
        AdmitsAll S ρ (resolved S (collect S l begin))
    held-resolved l f h =
        let s = collect S l begin in
        resolved-admits s (propagated-admits s (collect-in l begin tt)
        (links_of s.edges (collect-fair l begin f tt) (collect-kept l begin h (tt, tt)).1) (held-admits l f h))

    pub held-alive : (l : List (Conjunct Val)) → FairAll S ρ N l → HoldsAll S ρ N l →
        ((collect S l begin).unsat || any_unsat (collect S l begin).order (resolved S (collect S l begin))) ≡ false
    held-alive l f h = going s.unsat refl
      where
        s : Collected Val
        s = collect S l begin

        going : (b : Bool) → s.unsat ≡ b → (b || any_unsat s.order (resolved S s)) ≡ false
        going true e = let r = collect-halts l begin (λ x. absurd (true≢false (sym x))) e in
            absurd (true≢false (sym r.1 ∙ (live_of (s.constraints r.0).unsat
            (admits_emitted S (s.constraints r.0) (ρ r.0) && admits_recorded S (s.constraints r.0)
            (ρ r.0)) (held-admits l f h r.0)).0))
        going false e = not-unsat s.order (resolved S s) (held-resolved l f h)

    pub merge_is_sound : (l : List (Conjunct Val)) → FairAll S ρ N l → Sound S ρ N l (merge_filter_constraints S l)
    merge_is_sound l f = go (s.unsat || any_unsat s.order (resolved S s)) refl (rewrites S s)
      where
        s : Collected Val
        s = collect S l (begin)

        i : EdgesIn S s.order s.edges
        i = collect-in l (begin) tt

        ef : EdgesFair s.edges
        ef = collect-fair l (begin) f tt

        ns : List ℕ
        ns = s.opaque ++ kept_equalities S (propagated S s) s.edges

        ws : List (ℕ × ColumnComparison Val)
        ws = comparisons S s.order (resolved S s)

        to : HoldsAll S ρ N l → NodesTrue S ρ N ns × WrittenTrue S ρ N ws
        to h = let k = collect-kept l (begin) h (tt, tt) in (
          (nodes_app s.opaque (kept_equalities S (propagated S s) s.edges)).1
              (k.0, kept_of (propagated S s) s.edges k.1),
          (comparisons-true s.order (resolved S s)).1
              (λ c j. comparisons-resolved s c ∙ and_left (admits_emitted S (resolved S s c) (ρ c))
              (admits_recorded S (resolved S s c) (ρ c))
              (live_of (resolved S s c).unsat
              (admits_emitted S (resolved S s c) (ρ c) && admits_recorded S (resolved S s c) (ρ c)) (held-resolved l f h c)).1),
        )

        back : (s.unsat || any_unsat s.order (resolved S s)) ≡ false → NodesTrue S ρ N ns × WrittenTrue S ρ N ws →
            HoldsAll S ρ N l
        back e h = let d = or_no s.unsat (any_unsat s.order (resolved S s)) e in
            collect-back l (begin) f d.0 (conclude-left s i ef d.1 h.0 h.1)

        go : (b : Bool) → (s.unsat || any_unsat s.order (resolved S s)) ≡ b → (d : Bool) →
            Sound S ρ N l (cond b NothingPasses (cond d (Rebuilt ns ws) Unchanged))
        go true e d = λ h. true≢false (sym e ∙ held-alive l f h)
        go false e true = (to, back e)
        go false e false = tt
