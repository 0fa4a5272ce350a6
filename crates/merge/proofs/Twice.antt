-- What is read of a rebuilt chain is merged to nothing new: a screen merged twice is as merged once.
use mathlib.Core.Path.{◌≡◌, refl, sym, ◌∙◌, ap, subst}
use mathlib.Core.Bool.{Bool, true, false, ◌&&◌, ◌||◌, true≢false, cond}
use mathlib.Core.List.{List, [], ◌∷◌, ◌++◌, map}
use mathlib.Core.Option.{Option, none, some}
use mathlib.Core.Logic.{inl, inr}
use Prim.Native.Nat.{ℕ, ◌+◌, ◌≤◌}
use native.Mathlib.Omega.{arith}
use lib.ListN.{length}
use borrow.Author.Tests.{le-ltb}
use Rattle.constraints.proofs.Columns.{add_all-live, admits_emitted, admits_recorded}
use Rattle.constraints.proofs.Merges.{or_no}
use Rattle.constraints.proofs.Resolved.{fixed_excludes_nothing, resolve_live}
use Rattle.constraints.proofs.Resolves.{range_of}
use Rattle.constraints.specs.Bound.{Bound, crosses}
use Rattle.constraints.specs.Column.{ColumnConstraints, column}
use Rattle.constraints.specs.Comparisons.{ColumnComparison, collect_by, collect_column_comparisons}
use Rattle.constraints.specs.Resolve.{Range, fixed_at, fixed_value, resolve_deferred, resolve_excluded}
use Rattle.constraints.specs.Scalars.{Scalars}
use Rattle.constraints.specs.declared.column.Nullability.TheVariants.{Unconstrained}
use Rattle.merge.specs.Classify.{Bounds, Normalized, Conjunct, Equality, NonNullPair, Opaque, Recorded}
use Rattle.merge.specs.Collect.{Collected, Table, begin, collect, is_in}
use Rattle.merge.specs.Passes.{equalities, pass_times}
use Rattle.merge.specs.Propagate.{pass, propagate_emitted}
use Rattle.merge.specs.Emit.{NothingPasses, Outcome, Rebuilt, Unchanged, any_unsat, comparisons, dropped_equality}
use Rattle.merge.specs.Emit.{conclude, is_fixed, kept_equalities, merge_filter_constraints, propagated, rebuilt}
use Rattle.merge.specs.Emit.{resolved, rewrites}
use Rattle.merge.specs.Rebuild.{comparison_of, value_of}
use Rattle.merge.proofs.Classified.{comparison_read}
use Rattle.merge.proofs.Complete.{AllConsistent, AllE, Fits, FitsAll, collect-consistent, collect-fits}
use Rattle.merge.proofs.Complete.{conclude-full, in_is_in, pass-consistent, pass_times-consistent, witness_row}
use Rattle.merge.proofs.Counting.{collect-once, comparisons-total, total, total-among, written}
use Rattle.merge.proofs.Passes.{EdgesIn, In}
use Rattle.merge.proofs.ReadBack.{AllBare, Each, IsKept, AsRead, Written, collect-all, collect_all, collect_all_append}
use Rattle.merge.proofs.ReadBack.{comparison_written, each_append, each-kept, edges-read, equals_kept}
use Rattle.merge.proofs.ReadBack.{kept-bare, kept-count, kept-unforced, kept_conjuncts, kept_equals, kept_others, others-kept}
use Rattle.merge.proofs.ReadBack.{read_count, read_unforced, read_enters, read_table, read_back, read_back_edges, told_if}
use Rattle.merge.proofs.Reread.{conjunct_of, read_back_lem, reread, reread_agree, reread_settled}
use Rattle.merge.proofs.Reread.{reread_written, told-true, told_all, upper_by}
use Rattle.merge.proofs.Settled.{Agree, Settled, ends_resolve_alike, resolve_settles, resolve_unfixed}
use Rattle.merge.proofs.Settled.{settled_stays, range}
use Rattle.merge.proofs.Sound.{Fair, FairAll, Holds, HoldsAll, Sound, WrittenTrue, collect-in, ends, held-admits}
use Rattle.merge.proofs.Sound.{held-alive, live_of, merge_is_sound, unsat-none, is_in-in}
use Rattle.merge.proofs.Spread.{AllEndsAgree, EndsAgree, pass-fix}
use Rattle.merge.proofs.StillPasses.{AllMeeting, AllSame, Meeting, SameEmitted, propagate-same}
use Rattle.merge.proofs.Witness.{HalfPoints}

module _ {K Val : Type 0} (S : Scalars K Val) (H : HalfPoints S) where
  -- ---- The row that the first merging leaves fits what is read back.
  abbrev Yes : ℕ → Bool
  Yes n = true

  module _ (ρ : ℕ → Option K) where
    fits-fair : (x : Conjunct Val) → AsRead S x → Fits S H ρ Yes x → Fair S ρ Yes x
    fits-fair (Bounds c l) h f = h
    fits-fair (Normalized c l) h f = h
    fits-fair (Equality a b n) h f = (λ e. f, λ e. refl)
    fits-fair (Recorded z n c l) h f = λ e. f
    fits-fair (NonNullPair n a b) h f = λ e. f
    fits-fair (Opaque n) h f = tt

    fits-holds : (x : Conjunct Val) → Fits S H ρ Yes x → Holds S ρ Yes x
    fits-holds (Bounds c l) f = f
    fits-holds (Normalized c l) f = f
    fits-holds (Equality a b n) f = refl
    fits-holds (Recorded z n c l) f = refl
    fits-holds (NonNullPair n a b) f = refl
    fits-holds (Opaque n) f = refl

    all_fair : (l : List (Conjunct Val)) → Each S (AsRead S) l → Each S (Fits S H ρ Yes) l → FairAll S ρ Yes l
    all_fair [] h f = tt
    all_fair (x ∷ l) h f = (fits-fair x h.0 f.0, all_fair l h.1 f.1)

    all_hold : (l : List (Conjunct Val)) → Each S (Fits S H ρ Yes) l → HoldsAll S ρ Yes l
    all_hold [] f = tt
    all_hold (x ∷ l) f = (fits-holds x f.0, all_hold l f.1)

    each_fits : (l : List (Conjunct Val)) → FitsAll S H ρ Yes l → Each S (Fits S H ρ Yes) l
    each_fits [] f = tt
    each_fits (x ∷ l) f = (f.0, each_fits l f.1)

    written-fit : (cs : List (ℕ × ColumnComparison Val)) → WrittenTrue S ρ Yes cs →
        Each S (Fits S H ρ Yes) (map conjunct_of cs)
    written-fit [] w = tt
    written-fit (x ∷ cs) w = (told-true S x.1 (ρ x.0) ∙ w.0, written-fit cs w.1)

  written-shaped : (cs : List (ℕ × ColumnComparison Val)) → Each S (AsRead S) (map conjunct_of cs)
  written-shaped [] = tt
  written-shaped (x ∷ cs) = (comparison_read S (comparison_of x.1) (value_of x.1), written-shaped cs)

  -- ---- The comparisons of a column, by its bounds and excluded values.
  abbrev parts : Bound Val → Bound Val → List Val → List (ColumnComparison Val)
  parts l u e = collect_by (fixed_at S l u) (column l u e none [] false Unconstrained false)

  written-parts : (q : ColumnConstraints Val) →
      collect_column_comparisons S q ≡ parts q.lower q.upper q.excluded
  written-parts q = go (fixed_at S q.lower q.upper)
    where
      go : (o : Option Val) →
          collect_by o q ≡ collect_by o (column q.lower q.upper q.excluded none [] false Unconstrained false)
      go none = refl
      go (some v) = refl

  -- a column with the bounds and excluded values of a settled one resolves to the same comparisons
  same-written : (q m : ColumnConstraints Val) → SameEmitted q m → Settled S m →
      collect_column_comparisons S (resolve_deferred S q) ≡ collect_column_comparisons S m
  same-written q m h g =
      let e : resolve_excluded S q.excluded (range_of q) ≡ range S m.lower m.upper m.excluded =
      (λ i. resolve_excluded S (h.exc i) (range S (h.low i) (h.up i) [])) ∙ settled_stays S m g in
      written-parts (resolve_deferred S q)
      ∙ ap (λ (r : Range Val). parts r.lower r.upper r.kept) e
      ∙ sym (written-parts m)

  -- ---- The table that the passes end in.
  ends_agree : (s : Collected Val) → EdgesIn S s.order s.edges → AllConsistent S H s.constraints →
      ((c : ℕ) → In S c s.order → (resolved S s c).unsat ≡ false) →
      AllEndsAgree S s.edges (propagated S s) × AllConsistent S H (propagated S s)
  ends_agree s i ch dead =
      let r = ends S s.order s.edges s.constraints i in
      let u : Table Val = pass_times S r.0 s.edges s.constraints in
      let live : (c : ℕ) → In S c s.order → (pass S s.edges u c).unsat ≡ false =
      λ c j. subst (λ t. (t c).unsat ≡ false) r.1 (resolve_live S (propagated S s c) (dead c j)).0 in
      let p = pass-fix S s.order s.edges u i r.2 live in (
        subst (AllEndsAgree S s.edges) (sym (r.1 ∙ p.0)) p.1,
        subst (AllConsistent S H) (sym r.1)
            (pass-consistent S H s.edges u (pass_times-consistent S H r.0 s.edges s.constraints ch)),
      )

  -- ---- A property of the kept equalities.
  kept-edges : (P : ℕ × ℕ × ℕ → Type 0) (cs : List ℕ) (t : Table Val) (l : List (Conjunct Val)) →
      EdgesIn S cs (equalities l) → AllEndsAgree S (equalities l) t →
      ((e : ℕ × ℕ × ℕ) → In S e.0 cs → In S e.1 cs → EndsAgree S e.0 e.1 t →
      fixed_value S (t e.0) ≡ none → P e) → AllE P (equalities (kept_equals S t l))
  kept-edges P cs t [] i g k = tt
  kept-edges P cs t (Bounds c l ∷ xs) i g k = kept-edges P cs t xs i g k
  kept-edges P cs t (Normalized c l ∷ xs) i g k = kept-edges P cs t xs i g k
  kept-edges P cs t (Equality a b n ∷ xs) i g k = go (fixed_value S (t a)) refl (kept-edges P cs t xs i.1 g.1 k)
    where
      go : (o : Option Val) → fixed_value S (t a) ≡ o → AllE P (equalities (kept_equals S t xs)) →
          AllE P (equalities (cond (is_fixed o) (kept_equals S t xs) (Equality a b n ∷ kept_equals S t xs)))
      go none e r = (k (a, b, n) i.0.0 i.0.1 g.0 e, r)
      go (some v) e r = r
  kept-edges P cs t (Recorded z n c l ∷ xs) i g k = kept-edges P cs t xs i g k
  kept-edges P cs t (NonNullPair n a b ∷ xs) i g k = kept-edges P cs t xs i g k
  kept-edges P cs t (Opaque n ∷ xs) i g k = kept-edges P cs t xs i g k

  none_dropped : (t : Table Val) (es : List (ℕ × ℕ × ℕ)) → AllE (λ e. fixed_value S (t e.0) ≡ none) es →
      dropped_equality S t es ≡ false
  none_dropped t [] h = refl
  none_dropped t (e ∷ es) h = ap (λ o. is_fixed o || dropped_equality S t es) h.0 ∙ none_dropped t es h.1

  -- ---- What is concluded of a table in which nothing moved, nothing is dropped and nothing is impossible.
  pub nothing-new : (s : Collected Val) → (s.unsat || any_unsat s.order (resolved S s)) ≡ false →
      s.bound_conjuncts ≤ length (comparisons S s.order (resolved S s)) → s.normalized ≡ false →
      propagate_emitted S (length s.order) s.edges s.constraints ≡ false →
      dropped_equality S (propagated S s) s.edges ≡ false → conclude S s ≡ Unchanged
  nothing-new s a b f p d =
      let r : rewrites S s ≡ false =
      ap (λ x. x || (s.normalized || (propagate_emitted S (length s.order) s.edges s.constraints
      || dropped_equality S (propagated S s) s.edges)))
      (le-ltb (length (comparisons S s.order (resolved S s))) s.bound_conjuncts b)
      ∙ ap (λ x. x || (propagate_emitted S (length s.order) s.edges s.constraints
      || dropped_equality S (propagated S s) s.edges)) f
      ∙ ap (λ x. x || dropped_equality S (propagated S s) s.edges) p ∙ d in
      ap (λ x. cond x NothingPasses (cond (rewrites S s) (rebuilt S s) Unchanged)) a
      ∙ ap (λ x. cond x (rebuilt S s) Unchanged) r

  -- ---- The two mergings.
  pub merged_again : (l : List (Conjunct Val)) → Each S (AsRead S) l → (cs : List (ℕ × ColumnComparison Val)) →
      ((collect S l begin).unsat || any_unsat (collect S l begin).order (resolved S (collect S l begin))) ≡ false →
      comparisons S (collect S l begin).order (resolved S (collect S l begin)) ≡ cs →
      ((ρ : ℕ → Option K) → FairAll S ρ Yes l → HoldsAll S ρ Yes l → WrittenTrue S ρ Yes cs) →
      merge_filter_constraints S (read_back S l cs) ≡ Unchanged
  merged_again l shaped cs alive is-cs sound =
      nothing-new s' alive' counted unforced still.1 (subst (λ es. dropped_equality S (propagated S s') es ≡ false) (sym edges')
      (none_dropped (propagated S s') (equalities (kept_equals S P l)) unfixed))
    where
      -- the first merging
      s : Collected Val
      s = collect S l begin

      P : Table Val
      P = propagated S s

      R : Table Val
      R = resolved S s

      going : (s.unsat ≡ false) × (any_unsat s.order R ≡ false)
      going = or_no s.unsat (any_unsat s.order R) alive

      possible : (c : ℕ) → In S c s.order → (R c).unsat ≡ false
      possible = unsat-none S (λ c. none) Yes s.order R going.1

      in_order : EdgesIn S s.order s.edges
      in_order = collect-in S l begin tt

      checked : AllConsistent S H s.constraints
      checked = collect-consistent S H l begin (λ c h. refl)

      agreed : AllEndsAgree S s.edges P × AllConsistent S H P
      agreed = ends_agree s in_order checked possible

      edges : s.edges ≡ equalities l
      edges = ap (λ f. f.edges) (collect-all S l begin going.0) ∙ edges-read S l begin

      settled : (c : ℕ) → In S c s.order → Settled S (R c)
      settled c i = resolve_settles S (P c) (agreed.1 c) (possible c i)

      -- a row that fits both
      ρ : ℕ → Option K
      ρ = witness_row S H s

      fits : Each S (Fits S H ρ Yes) l
      fits = each_fits ρ l (collect-fits S H ρ Yes l begin going.0
          (conclude-full S H s Yes in_order checked going.1))

      fits' : Each S (Fits S H ρ Yes) (read_back S l cs)
      fits' = each_append S (Fits S H ρ Yes) (kept_conjuncts S l) (map conjunct_of cs)
          (each-kept S (Fits S H ρ Yes) l fits)
          (written-fit ρ cs (sound ρ (all_fair ρ l shaped fits) (all_hold ρ l fits)))

      shaped' : Each S (AsRead S) (read_back S l cs)
      shaped' = each_append S (AsRead S) (kept_conjuncts S l) (map conjunct_of cs) (each-kept S (AsRead S) l shaped)
          (written-shaped cs)

      -- the second merging
      s' : Collected Val
      s' = collect S (read_back S l cs) begin

      alive' : (s'.unsat || any_unsat s'.order (resolved S s')) ≡ false
      alive' = held-alive S ρ Yes (read_back S l cs) (all_fair ρ (read_back S l cs) shaped' fits')
          (all_hold ρ (read_back S l cs) fits')

      T : Table Val
      T = s'.constraints

      live : (c : ℕ) → (T c).unsat ≡ false
      live c = (live_of (T c).unsat (admits_emitted S (T c) (ρ c) && admits_recorded S (T c) (ρ c))
          (held-admits S ρ Yes (read_back S l cs) (all_fair ρ (read_back S l cs) shaped' fits')
          (all_hold ρ (read_back S l cs) fits') c)).0

      -- it is the kept conjuncts, then the comparisons
      kept : Collected Val
      kept = collect_all S (kept_conjuncts S l) begin

      bare : AllBare S kept.constraints
      bare = kept-bare S (kept_conjuncts S l) begin
          (each_append S (IsKept S) (kept_others l) (kept_equals S P l) (others-kept S l shaped) (equals_kept S P l))
          (λ c. (refl, refl, refl))

      parted : s' ≡ collect_all S (map conjunct_of cs) kept
      parted = collect-all S (read_back S l cs) begin
          (or_no s'.unsat (any_unsat s'.order (resolved S s')) alive').0
          ∙ collect_all_append S (kept_conjuncts S l) (map conjunct_of cs) begin

      edges' : s'.edges ≡ equalities (kept_equals S P l)
      edges' = ap (λ f. f.edges) (collect-all S (read_back S l cs) begin
          (or_no s'.unsat (any_unsat s'.order (resolved S s')) alive').0)
          ∙ edges-read S (read_back S l cs) begin ∙ read_back_edges S l cs

      told-to : (c : ℕ) →
          T c ≡ told_if S (is_in c s.order) (told_all (collect_column_comparisons S (R c))) (kept.constraints c)
      told-to c = ap (λ f. f.constraints c) parted
          ∙ ap (λ k. (collect_all S (map conjunct_of k) kept).constraints c) (sym is-cs)
          ∙ read_table S s.order R kept c (collect-once S l begin tt)

      kept-live : (c : ℕ) → (kept.constraints c).unsat ≡ false
      kept-live c = go (is_in c s.order) (sym (ap (λ q. q.unsat) (told-to c)) ∙ live c)
        where
          go : (b : Bool) → (told_if S b (told_all (collect_column_comparisons S (R c))) (kept.constraints c)).unsat
              ≡ false → (kept.constraints c).unsat ≡ false
          go true h = add_all-live S (told_all (collect_column_comparisons S (R c))) (kept.constraints c) h
          go false h = h

      read_in : (c : ℕ) → In S c s.order → T c ≡ reread S (R c) (kept.constraints c)
      read_in c i = told-to c
          ∙ ap (λ b. told_if S b (told_all (collect_column_comparisons S (R c))) (kept.constraints c))
          (in_is_in S H c s.order i)
          ∙ read_back_lem S (R c) (kept.constraints c) (settled c i) (fixed_excludes_nothing S (P c)) (bare c)
          (kept-live c)

      straight : (c : ℕ) → crosses S (T c).lower (T c).upper ≡ false
      straight c = collect-consistent S H (read_back S l cs) begin (λ c h. refl) c (live c)

      -- the passes move nothing
      meeting : (e : ℕ × ℕ × ℕ) → In S e.0 s.order → In S e.1 s.order → EndsAgree S e.0 e.1 P →
          fixed_value S (P e.0) ≡ none → Meeting S T straight e.0 e.1
      meeting e i j (inl p) n = inl p
      meeting e i j (inr p) n = inr (subst (λ q. Agree S q (T e.1)) (sym (read_in e.0 i))
          (subst (Agree S (reread S (R e.0) (kept.constraints e.0))) (sym (read_in e.1 j))
          (reread_agree S (R e.0) (R e.1) (kept.constraints e.0) (kept.constraints e.1)
          (ends_resolve_alike S (P e.0) (P e.1) p.0 p.1 (agreed.1 e.0) (agreed.1 e.1)
          (possible e.0 i) (possible e.1 j))
          (resolve_unfixed S (P e.0) (agreed.1 e.0) (possible e.0 i) n))))

      in_order' : EdgesIn S s.order (equalities l)
      in_order' = subst (EdgesIn S s.order) edges in_order

      agreed' : AllEndsAgree S (equalities l) P
      agreed' = subst (λ es. AllEndsAgree S es P) edges agreed.0

      all_meeting : AllMeeting S T straight s'.edges
      all_meeting = subst (AllMeeting S T straight) (sym edges')
          (kept-edges (λ e. Meeting S T straight e.0 e.1) s.order P l in_order' agreed' meeting)

      still : AllSame S T straight (propagated S s') ×
          (propagate_emitted S (length s'.order) s'.edges T ≡ false)
      still = propagate-same S T straight (length s'.order) s'.edges T all_meeting
          (λ c. record { low = refl; up = refl; exc = refl; live = live c })

      -- no equality is dropped
      unfixed_at : (e : ℕ × ℕ × ℕ) → In S e.0 s.order → In S e.1 s.order →
          EndsAgree S e.0 e.1 P → fixed_value S (P e.0) ≡ none →
          fixed_value S (propagated S s' e.0) ≡ none
      unfixed_at e i j g n =
          let h = still.0 e.0 in
          let f : fixed_at S (R e.0).lower (R e.0).upper ≡ none =
          resolve_unfixed S (P e.0) (agreed.1 e.0) (possible e.0 i) n in
          (λ k. fixed_at S (h.low k) (h.up k))
          ∙ ap (λ q. fixed_at S q.lower q.upper) (read_in e.0 i)
          ∙ ap (λ o. fixed_at S (R e.0).lower (upper_by o (R e.0).upper)) f
          ∙ f

      unfixed : AllE (λ e. fixed_value S (propagated S s' e.0) ≡ none) (equalities (kept_equals S P l))
      unfixed = kept-edges (λ e. fixed_value S (propagated S s' e.0) ≡ none) s.order P l in_order' agreed'
          unfixed_at

      -- as many comparisons come out as went in
      same-column : (c : ℕ) → In S c s.order →
          collect_column_comparisons S (resolved S s' c) ≡ collect_column_comparisons S (R c)
      same-column c i =
          same-written (propagated S s' c) (T c) (still.0 c)
          (subst (Settled S) (sym (read_in c i))
          (reread_settled S (R c) (kept.constraints c) (settled c i) (fixed_excludes_nothing S (P c))))
          ∙ ap (collect_column_comparisons S) (read_in c i)
          ∙ reread_written S (R c) (kept.constraints c)

      enters : (c : ℕ) → In S c s.order → 1 ≤ written S R c → In S c s'.order
      enters c i h = subst (λ f. In S c f.order) (sym parted) (read_enters S cs kept c
          (subst (Written S c) is-cs (comparison_written S s.order R c i h)))

      all : length cs ≤ length (comparisons S s'.order (resolved S s'))
      all = subst (λ n. n ≤ length (comparisons S s'.order (resolved S s')))
          (sym (comparisons-total S s.order R) ∙ ap length is-cs)
          (subst (λ n. total (written S R) s.order ≤ n) (sym (comparisons-total S s'.order (resolved S s')))
          (total-among S s.order s'.order (written S R) (written S (resolved S s'))
          (collect-once S l begin tt)
          (λ c i. subst (λ k. written S R c ≤ length k) (sym (same-column c (is_in-in S c s.order i))) (omega arith))
          (λ c i h. in_is_in S H c s'.order (enters c (is_in-in S c s.order i) h))))

      -- no comparison with a literal is negated any more
      unforced : s'.normalized ≡ false
      unforced = ap (λ f. f.normalized) parted ∙ read_unforced S cs kept ∙ kept-unforced S (kept_conjuncts S l) begin
          (each_append S (IsKept S) (kept_others l) (kept_equals S P l) (others-kept S l shaped) (equals_kept S P l))

      counted : s'.bound_conjuncts ≤ length (comparisons S s'.order (resolved S s'))
      counted =
          let e : s'.bound_conjuncts ≡ length cs + 0 =
          ap (λ f. f.bound_conjuncts) parted ∙ read_count S cs kept ∙ ap (λ n. length cs + n)
          (kept-count S (kept_conjuncts S l) begin
          (each_append S (IsKept S) (kept_others l) (kept_equals S P l) (others-kept S l shaped) (equals_kept S P l))) in
          omega (arith, e, all)

  -- ---- The merging of what is read of a rebuilt chain changes nothing.
  abbrev is_rebuilt : Outcome Val → Bool
  is_rebuilt Unchanged = false
  is_rebuilt NothingPasses = false
  is_rebuilt (Rebuilt ns cs) = true

  abbrev comparisons_of : Outcome Val → List (ℕ × ColumnComparison Val)
  comparisons_of Unchanged = []
  comparisons_of NothingPasses = []
  comparisons_of (Rebuilt ns cs) = cs

  abbrev nodes_of : Outcome Val → List ℕ
  nodes_of Unchanged = []
  nodes_of NothingPasses = []
  nodes_of (Rebuilt ns cs) = ns

  pub concluded : (s : Collected Val) (ns : List ℕ) (cs : List (ℕ × ColumnComparison Val)) → conclude S s ≡ Rebuilt ns cs →
      ((s.unsat || any_unsat s.order (resolved S s)) ≡ false) × (comparisons S s.order (resolved S s) ≡ cs) ×
      (s.opaque ++ kept_equalities S (propagated S s) s.edges ≡ ns)
  concluded s ns cs e = go (s.unsat || any_unsat s.order (resolved S s)) (rewrites S s) e
    where
      go : (b d : Bool) → cond b NothingPasses (cond d (rebuilt S s) Unchanged) ≡ Rebuilt ns cs → (b ≡ false) ×
          (comparisons S s.order (resolved S s) ≡ cs) ×
          (s.opaque ++ kept_equalities S (propagated S s) s.edges ≡ ns)
      go true d e = absurd (true≢false (sym (ap is_rebuilt e)))
      go false true e = (refl, ap comparisons_of e, ap nodes_of e)
      go false false e = absurd (true≢false (sym (ap is_rebuilt e)))

  pub merge_twice : (l : List (Conjunct Val)) → Each S (AsRead S) l → (ns : List ℕ)
      (cs : List (ℕ × ColumnComparison Val)) → merge_filter_constraints S l ≡ Rebuilt ns cs →
      merge_filter_constraints S (read_back S l cs) ≡ Unchanged
  merge_twice l h ns cs e =
      let r = concluded (collect S l begin) ns cs e in
      merged_again l h cs r.0 r.1
      (λ ρ f k. ((subst (Sound S ρ Yes l) e (merge_is_sound S ρ Yes l f)).0 k).1)
