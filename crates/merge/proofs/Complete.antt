-- A plain screen that is not answered by `nothing` lets a row pass.
use Rattle.merge.specs.Passes.{pass_times}
use mathlib.Core.Path.{◌≡◌, refl, sym, ◌∙◌, ap, subst}
use mathlib.Core.Bool.{Bool, true, false, ◌&&◌, ◌||◌, cond, true≢false, and-eq-true_iff, or-true}
use mathlib.Core.List.{List, [], ◌∷◌, ◌++◌}
use mathlib.Core.Option.{Option, none, some, none-ne-some, some-injective}
use mathlib.Core.Logic.{inl, inr, ◌↔◌}
use Prim.Native.Nat.{ℕ, zero, suc}
use lib.Dec.{eqb}
use lib.ListN.{length}
use Rattle.constraints.proofs.Columns.{add_all-emitted, add_all-recorded, admits, admits_emitted, admits_recorded}
use Rattle.constraints.proofs.Columns.{obeys_all, obeys_emitted_all, obeys_recorded_all}
use Rattle.constraints.proofs.Merges.{obeys_all_lem, or_no}
use Rattle.constraints.proofs.Resolved.{Consistent, add_all-consistent, resolve_live}
use Rattle.constraints.proofs.Resolves.{resolve_is_exact}
use Rattle.constraints.specs.Column.{ColumnConstraints, Constraint, Require, add_all, emitted, merge_from, recorded}
use Rattle.constraints.specs.Scalars.{Scalars}
use Rattle.constraints.specs.declared.column.Nullability.{Nullability}
use Rattle.constraints.specs.declared.column.Nullability.TheVariants.{NonNull, Null, Unconstrained}
use Rattle.merge.proofs.Passes.{EdgesIn, In, edge-ind, eqb-self}
use Rattle.merge.proofs.Sound.{FairAll, Grows, Holds, HoldsAll, Some, Sound, add_to-tighter, and_both, collect-going}
use Rattle.merge.proofs.Sound.{collect-grows, collect-in, ends, enter-in, in_enter, live_of, merge_is_sound}
use Rattle.merge.proofs.Sound.{unsat-none, upd_ind, upd_self}
use Rattle.merge.proofs.Spread.{AllEndsAgree, EndsAgree, Linked, pass-emitted, pass-fix, pass-live}
use Rattle.merge.proofs.Spread.{pass-recorded, pass_times-emitted, pass_times-live, pass_times-recorded}
use Rattle.merge.proofs.Witness.{HalfPoints, row_value, row_value-admitted, value_by, witness, witness_same}
use Rattle.merge.specs.Classify.{Bounds, Conjunct, Equality, NonNullPair, Normalized, Opaque, Recorded}
use Rattle.merge.specs.Collect.{Collected, Table, add_to, begin, collect, collect_one, enter, is_in}
use Rattle.merge.specs.Collect.{require_non_null}
use Rattle.merge.specs.Emit.{NothingPasses, Outcome, Rebuilt, Unchanged, any_unsat, comparisons}
use Rattle.merge.specs.Emit.{kept_equalities, merge_filter_constraints, propagated, resolved, rewrites}
use Rattle.merge.specs.Propagate.{merge_edge, merged_right, pass}

-- a property of every equality
abbrev pub AllE : ((ℕ × ℕ × ℕ) → Type 0) → List (ℕ × ℕ × ℕ) → Type 0
AllE P [] = Unit {0}
AllE P (e ∷ es) = P e × AllE P es

module _ {K Val : Type 0} (S : Scalars K Val) (H : HalfPoints S) where
  -- ---- the bounds of a column that is not impossible do not cross
  abbrev pub AllConsistent : Table Val → Type 0
  AllConsistent t = (c : ℕ) → Consistent S (t c)

  pub merge_consistent : (q r : ColumnConstraints Val) → Consistent S q → Consistent S (merge_from S q r)
  merge_consistent q r h = add_all-consistent S (recorded r) (add_all S (emitted r) q)
      (add_all-consistent S (emitted r) q h)

  pub pass-consistent : (es : List (ℕ × ℕ × ℕ)) (t : Table Val) → AllConsistent t → AllConsistent (pass S es t)
  pass-consistent [] t h = h
  pass-consistent (e ∷ es) t h = pass-consistent es (merge_edge S e.0 e.1 t)
      (edge-ind S (λ c q. Consistent S q) e.0 e.1 t h (merge_consistent (t e.1) (t e.0) (h e.1))
      (merge_consistent (t e.0) (merged_right S e.0 e.1 t) (h e.0)) (eqb e.0 e.1))

  pub pass_times-consistent : (n : ℕ) (es : List (ℕ × ℕ × ℕ)) (t : Table Val) → AllConsistent t →
      AllConsistent (pass_times S n es t)
  pass_times-consistent zero es t h = h
  pass_times-consistent (suc n) es t h = pass_times-consistent n es (pass S es t) (pass-consistent es t h)

  add_to-consistent : (c : ℕ) (l : List (Constraint Val)) (t : Table Val) → AllConsistent t →
      AllConsistent (add_to S c l t)
  add_to-consistent c l t h = upd_ind S (λ d q. Consistent S q) t c (add_all S l (t c)) h
      (add_all-consistent S l (t c) (h c))

  collect_one-consistent : (x : Conjunct Val) (s : Collected Val) → AllConsistent s.constraints →
      AllConsistent (collect_one S x s).constraints
  collect_one-consistent (Bounds c l) s h = add_to-consistent c l s.constraints h
  collect_one-consistent (Normalized c l) s h = add_to-consistent c l s.constraints h
  collect_one-consistent (Equality a b n) s h = add_to-consistent b (Require NonNull ∷ [])
      (require_non_null S a s.constraints) (add_to-consistent a (Require NonNull ∷ []) s.constraints h)
  collect_one-consistent (Recorded z n c l) s h = add_to-consistent c l s.constraints h
  collect_one-consistent (NonNullPair n a b) s h = add_to-consistent b (Require NonNull ∷ [])
      (require_non_null S a s.constraints) (add_to-consistent a (Require NonNull ∷ []) s.constraints h)
  collect_one-consistent (Opaque n) s h = h

  pub collect-consistent : (l : List (Conjunct Val)) (s : Collected Val) → AllConsistent s.constraints →
      AllConsistent (collect S l s).constraints
  collect-consistent [] s h = h
  collect-consistent (x ∷ l) s h = collect-consistent l (cond s.unsat s (collect_one S x s)) (go s.unsat)
    where
      go : (b : Bool) → AllConsistent (cond b s (collect_one S x s)).constraints
      go true = h
      go false = collect_one-consistent x s h

  -- ---- a property of every equality
  pub alle_app : (P : (ℕ × ℕ × ℕ) → Type 0) (es fs : List (ℕ × ℕ × ℕ)) → AllE P (es ++ fs) → AllE P es × AllE P fs
  alle_app P [] fs h = (tt, h)
  alle_app P (e ∷ es) fs h = let r = alle_app P es fs h.1 in ((h.0, r.0), r.1)

  collect_one-alle : (P : (ℕ × ℕ × ℕ) → Type 0) (x : Conjunct Val) (s : Collected Val) →
      AllE P (collect_one S x s).edges → AllE P s.edges
  collect_one-alle P (Bounds c l) s h = h
  collect_one-alle P (Normalized c l) s h = h
  collect_one-alle P (Equality a b n) s h = (alle_app P s.edges ((a, b, n) ∷ []) h).0
  collect_one-alle P (Recorded z n c l) s h = h
  collect_one-alle P (NonNullPair n a b) s h = h
  collect_one-alle P (Opaque n) s h = h

  collect-alle : (P : (ℕ × ℕ × ℕ) → Type 0) (l : List (Conjunct Val)) (s : Collected Val) →
      AllE P (collect S l s).edges → AllE P s.edges
  collect-alle P [] s h = h
  collect-alle P (x ∷ l) s h = go s.unsat (collect-alle P l (cond s.unsat s (collect_one S x s)) h)
    where
      go : (b : Bool) → AllE P (cond b s (collect_one S x s)).edges → AllE P s.edges
      go true h = h
      go false h = collect_one-alle P x s h

  module _ (ρ : ℕ → Option K) (N : ℕ → Bool) where
    -- what a conjunct of a plain screen says
    abbrev pub Exact : Conjunct Val → Type 0
    Exact (Bounds c l) = Unit {0}
    Exact (Normalized c l) = Unit {0}
    Exact (Equality a b n) = Linked S ρ a b → N n ≡ true
    Exact (Recorded z n c l) = obeys_all S l (ρ c) ≡ true → N n ≡ true
    Exact (NonNullPair n a b) = ⊥
    Exact (Opaque n) = ⊥

    abbrev pub ExactAll : List (Conjunct Val) → Type 0
    ExactAll [] = Unit {0}
    ExactAll (x ∷ l) = Exact x × ExactAll l

    abbrev pub Meets : (ℕ × ℕ × ℕ) → Type 0
    Meets e = (k j : K) → ρ e.0 ≡ some k → ρ e.1 ≡ some j → k ≡ j

    abbrev pub Full : Collected Val → Type 0
    Full f = AllE Meets f.edges × ((c : ℕ) → In S c f.order →
        ((f.constraints c).unsat ≡ false) × (admits_emitted S (f.constraints c) (ρ c) ≡ true) ×
        (admits_recorded S (f.constraints c) (ρ c) ≡ true))

    -- what was told to a column is true of its value
    add_to-back : (c : ℕ) (l : List (Constraint Val)) (t : Table Val) → (add_to S c l t c).unsat ≡ false →
        admits_emitted S (add_to S c l t c) (ρ c) ≡ true → admits_recorded S (add_to S c l t c) (ρ c) ≡ true →
        obeys_all S l (ρ c) ≡ true
    add_to-back c l t a h m =
        let p : add_to S c l t c ≡ add_all S l (t c) = upd_self S t c (add_all S l (t c)) in
        let a' : (add_all S l (t c)).unsat ≡ false = subst (λ q. q.unsat ≡ false) p a in
        let h' : admits_emitted S (add_all S l (t c)) (ρ c) ≡ true = subst (λ q. admits_emitted S q (ρ c) ≡ true) p h in
        let m' : admits_recorded S (add_all S l (t c)) (ρ c) ≡ true = subst (λ q. admits_recorded S q (ρ c) ≡ true) p m
        in
        obeys_all_lem S l (ρ c) ∙ and_both (obeys_emitted_all S l (ρ c)) (obeys_recorded_all S l (ρ c))
        ((and-eq-true_iff (admits_emitted S (t c) (ρ c)) (obeys_emitted_all S l (ρ c))).0
        (sym (add_all-emitted S l (t c) (ρ c) a') ∙ h')).1
        ((and-eq-true_iff (admits_recorded S (t c) (ρ c)) (obeys_recorded_all S l (ρ c))).0
        (sym (add_all-recorded S l (t c) (ρ c) a') ∙ m')).1

    required_some : (x : Option K) → obeys_all S (Require NonNull ∷ []) x ≡ true → (k : K) × (x ≡ some k)
    required_some none h = absurd (true≢false (sym h))
    required_some (some k) h = (k, refl)

    full_at : (s f : Collected Val) → Grows S ρ N s f → Full f → (c : ℕ) → In S c s.order →
        ((s.constraints c).unsat ≡ false) × (admits_emitted S (s.constraints c) (ρ c) ≡ true) ×
        (admits_recorded S (s.constraints c) (ρ c) ≡ true)
    full_at s f g k c i = let r = k.1 c (g.ord c i) in
        (g.alive c r.0, g.sho c r.0 r.1, g.min c r.0 r.2)

    -- what a conjunct says of the row
    abbrev pub Fits : Conjunct Val → Type 0
    Fits (Bounds c l) = obeys_all S l (ρ c) ≡ true
    Fits (Normalized c l) = obeys_all S l (ρ c) ≡ true
    Fits (Equality a b n) = Linked S ρ a b
    Fits (Recorded z n c l) = obeys_all S l (ρ c) ≡ true
    Fits (NonNullPair n a b) = Some S ρ N a × Some S ρ N b
    Fits (Opaque n) = Unit {0}

    abbrev pub FitsAll : List (Conjunct Val) → Type 0
    FitsAll [] = Unit {0}
    FitsAll (x ∷ l) = Fits x × FitsAll l

    required_fits : (a b : ℕ) (s f u : Collected Val) → u.constraints ≡
        require_non_null S b (require_non_null S a s.constraints) → u.order ≡ enter b (enter a s.order) →
        Grows S ρ N u f → Full f → Some S ρ N a × Some S ρ N b
    required_fits a b s f u p q g k =
        let at : (c : ℕ) → In S c (enter b (enter a s.order)) →
        ((require_non_null S b (require_non_null S a s.constraints) c).unsat ≡ false) ×
        (admits_emitted S (require_non_null S b (require_non_null S a s.constraints) c) (ρ c) ≡ true) ×
        (admits_recorded S (require_non_null S b (require_non_null S a s.constraints) c) (ρ c) ≡ true) =
        λ c i. subst (λ t. ((t c).unsat ≡ false) × (admits_emitted S (t c) (ρ c) ≡ true) ×
        (admits_recorded S (t c) (ρ c) ≡ true)) p (full_at u f g k c (subst (In S c) (sym q) i)) in
        let ra = at a (in_enter S a b (enter a s.order) (enter-in S a s.order)) in
        let rb = at b (enter-in S b (enter a s.order)) in
        let t = add_to-tighter S ρ N b (Require NonNull ∷ []) (require_non_null S a s.constraints) a in (
          required_some (ρ a) (add_to-back a (Require NonNull ∷ []) s.constraints (t.0 ra.0)
              (t.1 ra.0 ra.1) (t.2 ra.0 ra.2)),
          required_some (ρ b) (add_to-back b (Require NonNull ∷ []) (require_non_null S a s.constraints) rb.0
              rb.1 rb.2),
        )

    collect_one-fits : (x : Conjunct Val) (s f : Collected Val) → Grows S ρ N (collect_one S x s) f →
        AllE Meets (collect_one S x s).edges → Full f → Fits x
    collect_one-fits (Bounds c l) s f g m k = let r = full_at (collect_one S (Bounds c l) s) f g k c
        (enter-in S c s.order) in add_to-back c l s.constraints r.0 r.1 r.2
    collect_one-fits (Normalized c l) s f g m k = let r = full_at (collect_one S (Normalized c l) s) f g k c
        (enter-in S c s.order) in add_to-back c l s.constraints r.0 r.1 r.2
    collect_one-fits (Recorded z n c l) s f g m k = let r = full_at (collect_one S (Recorded z n c l) s) f g k c
        (enter-in S c s.order) in add_to-back c l s.constraints r.0 r.1 r.2
    collect_one-fits (NonNullPair n a b) s f g m k =
        required_fits a b s f (collect_one S (NonNullPair n a b) s) refl refl g k
    collect_one-fits (Opaque n) s f g m k = tt
    collect_one-fits (Equality a b n) s f g m k =
        let p = required_fits a b s f (collect_one S (Equality a b n) s) refl refl g k in
        let q = (alle_app Meets s.edges ((a, b, n) ∷ []) m).1.0 p.0.0 p.1.0 p.0.1 p.1.1 in
        (p.0.0, p.0.1, p.1.1 ∙ ap some (sym q))

    -- the row that is left at the end fits every conjunct
    pub collect-fits : (l : List (Conjunct Val)) (s : Collected Val) → (collect S l s).unsat ≡ false →
        Full (collect S l s) → FitsAll l
    collect-fits [] s h k = tt
    collect-fits (x ∷ l) s h k = go s.unsat (collect-going S ρ N (x ∷ l) s h) k
        (collect-fits l (cond s.unsat s (collect_one S x s)) h k)
      where
        go : (b : Bool) → b ≡ false → Full (collect S l (cond b s (collect_one S x s))) → FitsAll l →
            Fits x × FitsAll l
        go true p k r = absurd (true≢false p)
        go false p k r = (
          collect_one-fits x s (collect S l (collect_one S x s)) (collect-grows S ρ N l (collect_one S x s))
              (collect-alle Meets l (collect_one S x s) k.0) k,
          r,
        )

    fits-holds : (x : Conjunct Val) → Exact x → Fits x → Holds S ρ N x
    fits-holds (Bounds c l) e f = f
    fits-holds (Normalized c l) e f = f
    fits-holds (Equality a b n) e f = e f
    fits-holds (Recorded z n c l) e f = e f
    fits-holds (NonNullPair n a b) e f = absurd e
    fits-holds (Opaque n) e f = absurd e

    all_fit-hold : (l : List (Conjunct Val)) → ExactAll l → FitsAll l → HoldsAll S ρ N l
    all_fit-hold [] e f = tt
    all_fit-hold (x ∷ l) e f = (fits-holds x e.0 f.0, all_fit-hold l e.1 f.1)

  -- ---- the row
  row_value-witness : (q : ColumnConstraints Val) (k : K) → row_value S H q ≡ some k → witness S H q ≡ k
  row_value-witness q k h = go q.nullability h
    where
      go : (n : Nullability) → value_by S H n (witness S H q) ≡ some k → witness S H q ≡ k
      go Unconstrained h = some-injective (witness S H q) k h
      go NonNull h = some-injective (witness S H q) k h
      go Null h = absurd (none-ne-some k h)

  -- a column that is not read is null
  abbrev pub witness_row : Collected Val → ℕ → Option K
  witness_row s c = cond (is_in c s.order) (row_value S H (resolved S s c)) none

  pub in_is_in : (c : ℕ) (l : List ℕ) → In S c l → is_in c l ≡ true
  in_is_in c [] i = absurd i
  in_is_in c (d ∷ l) (inl e) = ap (λ x. eqb c x || is_in c l) (sym e) ∙ ap (λ b. b || is_in c l) (eqb-self c)
  in_is_in c (d ∷ l) (inr i) = ap (λ b. eqb c d || b) (in_is_in c l i) ∙ or-true (eqb c d)

  row_in : (s : Collected Val) (c : ℕ) → In S c s.order → witness_row s c ≡ row_value S H (resolved S s c)
  row_in s c i = ap (λ b. cond b (row_value S H (resolved S s c)) none) (in_is_in c s.order i)

  meets : (s : Collected Val) (es : List (ℕ × ℕ × ℕ)) → EdgesIn S s.order es →
      ((c : ℕ) → In S c s.order → (resolved S s c).unsat ≡ false) → AllEndsAgree S es (propagated S s) →
      AllE (Meets (witness_row s) (λ n. true)) es
  meets s [] i f g = tt
  meets s (e ∷ es) i f g = (one g.0, meets s es i.1 f g.1)
    where
      one : EndsAgree S e.0 e.1 (propagated S s) → Meets (witness_row s) (λ n. true) e
      one (inl p) k j x y = some-injective k j (sym x ∙ ap (witness_row s) p ∙ y)
      one (inr p) k j x y = sym (row_value-witness (resolved S s e.0) k (sym (row_in s e.0 i.0.0) ∙ x)) ∙
          witness_same S H (propagated S s e.0) (propagated S s e.1) p.0 p.1 (f e.0 i.0.0)
          (f e.1 i.0.1) ∙ row_value-witness (resolved S s e.1) j (sym (row_in s e.1 i.0.1) ∙ y)

  pub conclude-full : (s : Collected Val) (N : ℕ → Bool) → EdgesIn S s.order s.edges →
      AllConsistent s.constraints → any_unsat s.order (resolved S s) ≡ false → Full (witness_row s) N s
  conclude-full s N i ch d =
      let r = ends S s.order s.edges s.constraints i in
      let u : Table Val = pass_times S r.0 s.edges s.constraints in
      let dead : (c : ℕ) → In S c s.order → (resolved S s c).unsat ≡ false =
      unsat-none S (witness_row s) N s.order
      (resolved S s) d in
      let live : (c : ℕ) → In S c s.order → (pass S s.edges u c).unsat ≡ false =
      λ c j. subst (λ t. (t c).unsat ≡ false) r.1 (resolve_live S (propagated S s c) (dead c j)).0 in
      let p = pass-fix S s.order s.edges u i r.2 live in
      let g : AllEndsAgree S s.edges (propagated S s) = subst (AllEndsAgree S s.edges) (sym (r.1 ∙ p.0))
      p.1
      in
      let chk : AllConsistent (propagated S s) =
      subst AllConsistent (sym r.1)
      (pass-consistent s.edges u (pass_times-consistent r.0 s.edges s.constraints ch)) in
      let both : (c : ℕ) → In S c s.order → (admits_emitted S (propagated S s c) (witness_row s c) ≡ true) ×
      (admits_recorded S (propagated S s c) (witness_row s c) ≡ true) =
      λ c j. (and-eq-true_iff (admits_emitted S (propagated S s c) (witness_row s c))
      (admits_recorded S (propagated S s c) (witness_row s c))).0
      (live_of (propagated S s c).unsat (admits_emitted S (propagated S s c) (witness_row s c) && admits_recorded S
      (propagated S s c) (witness_row s c)) (sym (resolve_is_exact S (propagated S s c) (witness_row s c)) ∙
      ap (admits S (resolved S s c)) (row_in s c j) ∙ row_value-admitted S H (propagated S s c) (chk c)
      (dead c j))).1 in (
        meets s s.edges i dead g,
        λ c j.
            let lp = live c j in
            let lu = pass-live S s.edges u c lp in (
              pass_times-live S r.0 s.edges s.constraints c lu,
              pass_times-emitted S r.0 s.edges s.constraints c (witness_row s c) lu
                  (pass-emitted S s.edges u c (witness_row s c) lp
                  (subst (λ t. admits_emitted S (t c) (witness_row s c) ≡ true) r.1 (both c j).0)),
              pass_times-recorded S r.0 s.edges s.constraints c (witness_row s c) lu
                  (pass-recorded S s.edges u c (witness_row s c) lp
                  (subst (λ t. admits_recorded S (t c) (witness_row s c) ≡ true) r.1 (both c j).1)),
            ),
      )

  abbrev pub Complete : ((ℕ → Option K) → ℕ → Bool) → List (Conjunct Val) → Outcome Val → Type 0
  Complete N l NothingPasses = Unit {0}
  Complete N l Unchanged = (ρ : ℕ → Option K) × HoldsAll S ρ (N ρ) l
  Complete N l (Rebuilt ns ws) = (ρ : ℕ → Option K) × HoldsAll S ρ (N ρ) l

  -- what was collected of plain conjuncts that do not let nothing pass is true of the witness row itself
  pub witness_holds : (N : (ℕ → Option K) → ℕ → Bool) (l : List (Conjunct Val)) →
      ((ρ : ℕ → Option K) → ExactAll ρ (N ρ) l) →
      let s = collect S l begin in
      (s.unsat || any_unsat s.order (resolved S s)) ≡ false → HoldsAll S (witness_row s) (N (witness_row s)) l
  witness_holds N l e h =
      let s = collect S l begin in
      let d = or_no s.unsat (any_unsat s.order (resolved S s)) h in
      all_fit-hold (witness_row s) (N (witness_row s)) l (e (witness_row s))
      (collect-fits (witness_row s) (N (witness_row s)) l (begin) d.0
      (conclude-full s (N (witness_row s)) (collect-in S l (begin) tt) (collect-consistent l (begin) (λ c h. refl))
      d.1))

  pub merge_is_complete : (N : (ℕ → Option K) → ℕ → Bool) (l : List (Conjunct Val)) →
      ((ρ : ℕ → Option K) → ExactAll ρ (N ρ) l) → Complete N l (merge_filter_constraints S l)
  merge_is_complete N l e = go (s.unsat || any_unsat s.order (resolved S s)) refl (rewrites S s)
    where
      s : Collected Val
      s = collect S l (begin)

      go : (b : Bool) → (s.unsat || any_unsat s.order (resolved S s)) ≡ b → (d : Bool) →
          Complete N l (cond b NothingPasses (cond d (Rebuilt
          (s.opaque ++ kept_equalities S (propagated S s) s.edges)
          (comparisons S s.order (resolved S s))) Unchanged))
      go true h d = tt
      go false h true = (witness_row s, witness_holds N l e h)
      go false h false = (witness_row s, witness_holds N l e h)

  -- ---- `nothing` is answered exactly when no row passes
  abbrev pub is_nothing_passes : Outcome Val → Bool
  is_nothing_passes NothingPasses = true
  is_nothing_passes Unchanged = false
  is_nothing_passes (Rebuilt ns ws) = false

  pub nothing-exactly : (N : (ℕ → Option K) → ℕ → Bool) (l : List (Conjunct Val)) →
      ((ρ : ℕ → Option K) → FairAll S ρ (N ρ) l × ExactAll ρ (N ρ) l) →
      (is_nothing_passes (merge_filter_constraints S l) ≡ true) ↔ ((ρ : ℕ → Option K) → HoldsAll S ρ (N ρ) l → ⊥)
  nothing-exactly N l h = go (merge_filter_constraints S l) (λ ρ. merge_is_sound S ρ (N ρ) l (h ρ).0)
      (merge_is_complete N l (λ ρ. (h ρ).1))
    where
      go : (a : Outcome Val) → ((ρ : ℕ → Option K) → Sound S ρ (N ρ) l a) → Complete N l a →
          (is_nothing_passes a ≡ true) ↔ ((ρ : ℕ → Option K) → HoldsAll S ρ (N ρ) l → ⊥)
      go NothingPasses s c = (λ e ρ. s ρ, λ f. refl)
      go Unchanged s c = (λ e. absurd (true≢false (sym e)), λ f. absurd (f c.0 c.1))
      go (Rebuilt ns ws) s c = (λ e. absurd (true≢false (sym e)), λ f. absurd (f c.0 c.1))
