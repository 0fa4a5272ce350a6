-- A rebuilt chain always has a comparison. A column says something if it has a bound or an excluded value. What makes
-- the merging rebuild, makes some column that entered say something: a conjunct that became bounds, negated or not;
-- something written out that moved in a pass; the fixed value for which an equality was dropped. It goes on saying something through
-- further constraints, passes and resolving, which drops an excluded value only against a bound.
use mathlib.Core.Path.{◌≡◌, refl, sym, subst}
use mathlib.Core.Bool.{Bool, true, false, not, ◌&&◌, ◌||◌, cond, true≢false}
use mathlib.Core.List.{List, [], ◌∷◌, ◌++◌, map}
use mathlib.Core.Logic.{◌⊎◌, inl, inr}
use mathlib.Core.Option.{Option, none, some}
use Prim.Native.Nat.{ℕ, zero, suc, ◌≤◌, ◌<◌}
use native.Mathlib.Omega.{arith}
use lib.Dec.{eqb, ltb}
use lib.ListN.{length}
use borrow.Author.Tests.{ltb-true}
use Rattle.truth.specs.Comparison.{Comparison, Eq, NotEq, Lt, LtEq, Gt, GtEq}
use Rattle.checking.specs.Check.{check_answer}
use Rattle.checking.specs.Tree.{tree_count}
use Rattle.checking.specs.Answer.{CheckAnswer}
use Rattle.checking.specs.Answer as check
use Rattle.checking.proofs.Accepted.{checked}
use Rattle.truth.specs.AExpr.{AExpr}
use Rattle.truth.specs.FromBytes.{aexpr_at}
use Rattle.constraints.specs.declared.column.ExcludedResolution.{ExcludedResolution}
use Rattle.constraints.specs.declared.column.ExcludedResolution.TheVariants.{Drop, Keep, TightenLower, TightenUpper}
use Rattle.constraints.specs.declared.column.Nullability.TheVariants.{NonNull}
use Rattle.constraints.specs.Bound.{Bound, absent, at, is_absent, of_bound}
use Rattle.constraints.specs.Column.{Allow, ColumnConstraints, Constraint, Disallow, Exclude, Lower, Require, Upper}
use Rattle.constraints.specs.Column.{add, add_all, changes, changes_all, emitted, merge_emitted, merge_from, put, recorded}
use Rattle.constraints.specs.Comparisons.{ColumnComparison, collect_by, collect_column_comparisons, IsLower, IsUpper}
use Rattle.constraints.specs.Comparisons.{IsNotEq}
use Rattle.constraints.specs.Payload.{payload}
use Rattle.constraints.specs.Resolve.{Range, classify_at, fixed_at, fixed_value, range_with, resolve_deferred}
use Rattle.constraints.specs.Resolve.{resolve_excluded, resolve_by}
use Rattle.constraints.specs.Scalars.{Scalars, opposite}
use Rattle.constraints.specs.Values.{insert, is_empty}
use Rattle.constraints.proofs.Columns.{add_all-live, insert-full, tighten-present}
use Rattle.constraints.proofs.Resolves.{fixed_lower, open_at-present, resolve_if}
use Rattle.merge.specs.Minterms.{minterms}
use Rattle.merge.specs.Classify.{Bounds, Conjunct, Equality, NonNullPair, Normalized, Opaque, Recorded}
use Rattle.merge.specs.Classify.{classify, comparison_constraints}
use Rattle.merge.specs.Collect.{Collected, Table, add_to, begin, collect, collect_one, enter, require_non_null}
use Rattle.merge.specs.Compared.{RebuiltCompares, RewrittenRootIsNew}
use Rattle.merge.specs.Emit.{NothingPasses, Outcome, Rebuilt, Unchanged, any_unsat, comparisons, conclude}
use Rattle.merge.specs.Emit.{dropped_equality, is_fixed, merge_filter_constraints, of_column, propagated, rebuilt}
use Rattle.merge.specs.Emit.{resolved, rewrites}
use Rattle.merge.specs.Propagate.{edge_emitted, merge_edge, merged_right, pass, pass_any, pass_emitted}
use Rattle.merge.specs.Propagate.{propagate, propagate_emitted}
use Rattle.merge.specs.Rebuild.{and_root, ands_end, comparison_nodes, comparisons_end}
use Rattle.merge.specs.Rewrite.{chain_fits, chain_root, chain_used, has_room, outcome_answer, outcome_of}
use Rattle.merge.specs.Rewrite.{rewrite_answer, rewrite_if}
use Rattle.merge.specs.declared.answer.RewriteAnswer.{RewriteAnswer}
use Rattle.merge.specs.declared.answer.RewriteAnswer.TheVariants as answer
use Rattle.merge.proofs.Forms.{classify-ind}
use Rattle.merge.proofs.Passes.{EdgesIn, In, at_a, at_b, edge-ind, merge_edge_if}
use Rattle.merge.proofs.RebuiltBytes.{comparisons-end}
use Rattle.merge.proofs.Sound.{collect-in, enter-in, in_enter, live_of, upd_ind, upd_self}

either : (a b : Bool) → (a || b) ≡ true → (a ≡ true) ⊎ (b ≡ true)
either true b h = inl refl
either false b h = inr h

neither : (a b : Bool) → (a || b) ≡ false → a ≡ false
neither true b h = h
neither false b h = refl

pub full-left : {A : Type 0} (l m : List A) → is_empty l ≡ false → is_empty (l ++ m) ≡ false
full-left [] m h = absurd (true≢false h)
full-left (x ∷ l) m h = refl

pub full-right : {A : Type 0} (l m : List A) → is_empty m ≡ false → is_empty (l ++ m) ≡ false
full-right [] m h = h
full-right (x ∷ l) m h = refl

-- ---- One column.
-- A lower bound, an upper bound or an excluded value.
abbrev Speaks : {Val : Type 0} → Bound Val → Bound Val → List Val → Type 0
Speaks l u e = (is_absent l ≡ false) ⊎ ((is_absent u ≡ false) ⊎ (is_empty e ≡ false))

abbrev Says : {Val : Type 0} → ColumnConstraints Val → Type 0
Says q = Speaks q.lower q.upper q.excluded

-- What is written out again.
abbrev Emitted : {Val : Type 0} → Constraint Val → Type 0
Emitted (Lower inclusive v) = Unit {0}
Emitted (Upper inclusive v) = Unit {0}
Emitted (Exclude v) = Unit {0}
Emitted (Allow l) = ⊥
Emitted (Disallow counts l) = ⊥
Emitted (Require n) = ⊥

abbrev AllEmitted : {Val : Type 0} → List (Constraint Val) → Type 0
AllEmitted [] = Unit {0}
AllEmitted (a ∷ l) = Emitted a × AllEmitted l

emitted-app : {Val : Type 0} (l m : List (Constraint Val)) → AllEmitted l → AllEmitted m → AllEmitted (l ++ m)
emitted-app [] m h k = k
emitted-app (a ∷ l) m h k = (h.0, emitted-app l m h.1 k)

emitted-excluded : {Val : Type 0} (l : List Val) → AllEmitted (map Exclude l)
emitted-excluded [] = tt
emitted-excluded (v ∷ l) = (tt, emitted-excluded l)

emitted-bound : {Val : Type 0} (says : Bool → Val → Constraint Val) → ((i : Bool) (v : Val) → Emitted (says i v)) →
    (b : Bound Val) → AllEmitted (of_bound says b)
emitted-bound says h absent = tt
emitted-bound says h (at i v) = (h i v, tt)

emitted-all : {Val : Type 0} (q : ColumnConstraints Val) → AllEmitted (emitted q)
emitted-all q =
    emitted-app (of_bound Lower q.lower) (of_bound Upper q.upper ++ map Exclude q.excluded)
    (emitted-bound Lower (λ i v. tt) q.lower)
    (emitted-app (of_bound Upper q.upper) (map Exclude q.excluded) (emitted-bound Upper (λ i v. tt) q.upper)
    (emitted-excluded q.excluded))

module _ {K Val : Type 0} (S : Scalars K Val) where
  put-says : (a : Constraint Val) (q : ColumnConstraints Val) → Emitted a → Says (put S a q)
  put-says (Lower i v) q h = inl (tighten-present S q.lower i v)
  put-says (Upper i v) q h = inr (inl (tighten-present (opposite S) q.upper i v))
  put-says (Exclude v) q h = inr (inr (insert-full S v q.excluded))
  put-says (Allow l) q h = absurd h
  put-says (Disallow counts l) q h = absurd h
  put-says (Require n) q h = absurd h

  put_keeps : (a : Constraint Val) (q : ColumnConstraints Val) → Says q → Says (put S a q)
  put_keeps (Lower i v) q h = put-says (Lower i v) q tt
  put_keeps (Upper i v) q h = put-says (Upper i v) q tt
  put_keeps (Exclude v) q h = put-says (Exclude v) q tt
  put_keeps (Allow l) q h = h
  put_keeps (Disallow counts l) q h = h
  put_keeps (Require n) q h = h

  add-keeps : (a : Constraint Val) (q : ColumnConstraints Val) → Says q → Says (add S a q)
  add-keeps a q h = go q.unsat
    where
      go : (b : Bool) → Says (cond b q (put S a q))
      go true = h
      go false = put_keeps a q h

  -- a column that is possible says what it takes in
  add-says : (a : Constraint Val) (q : ColumnConstraints Val) → Emitted a → q.unsat ≡ false → Says (add S a q)
  add-says a q h u = subst (λ b. Says (cond b q (put S a q))) (sym u) (put-says a q h)

  add_all-keeps : (l : List (Constraint Val)) (q : ColumnConstraints Val) → Says q → Says (add_all S l q)
  add_all-keeps [] q h = h
  add_all-keeps (a ∷ l) q h = add_all-keeps l (add S a q) (add-keeps a q h)

  merge_keeps : (q r : ColumnConstraints Val) → Says q → Says (merge_from S q r)
  merge_keeps q r h = add_all-keeps (recorded r) (add_all S (emitted r) q) (add_all-keeps (emitted r) q h)

  changed_says : (l : List (Constraint Val)) (q : ColumnConstraints Val) → AllEmitted l → changes_all S l q ≡ true →
      Says (add_all S l q)
  changed_says [] q h e = absurd (true≢false (sym e))
  changed_says (a ∷ l) q h e =
      go (either (not q.unsat && changes S a q) (changes_all S l (add S a q)) e)
      (λ k. changed_says l (add S a q) h.1 k)
    where
      go : ((not q.unsat && changes S a q) ≡ true) ⊎ (changes_all S l (add S a q) ≡ true) →
          (changes_all S l (add S a q) ≡ true → Says (add_all S l (add S a q))) → Says (add_all S l (add S a q))
      go (inl k) ih =
          add_all-keeps l (add S a q) (add-says a q h.0 (live_of q.unsat (changes S a q) k).0)
      go (inr k) ih = ih k

  -- something that is written out changed
  merged_says : (q r : ColumnConstraints Val) → merge_emitted S q r ≡ true → Says (merge_from S q r)
  merged_says q r e =
      add_all-keeps (recorded r) (add_all S (emitted r) q) (changed_says (emitted r) q (emitted-all r) e)

  -- ---- resolving
  abbrev SaysR : Range Val → Type 0
  SaysR r = Speaks r.lower r.upper r.kept

  resolve_by-keeps : (f : ExcludedResolution) (v : Val) (r : Range Val) → SaysR r → SaysR (resolve_by S f v r)
  resolve_by-keeps Drop v r h = h
  resolve_by-keeps Keep v r h = inr (inr (insert-full S v r.kept))
  resolve_by-keeps TightenLower v r h = inl (open_at-present S r.lower v)
  resolve_by-keeps TightenUpper v r h = inr (inl (open_at-present S r.upper v))

  walk-keeps : (l : List Val) (r : Range Val) → SaysR r → SaysR (resolve_excluded S l r)
  walk-keeps [] r h = h
  walk-keeps (v ∷ l) r h = walk-keeps l (resolve_if S r.crossed v r) (go r.crossed)
    where
      go : (b : Bool) → SaysR (resolve_if S b v r)
      go true = h
      go false = resolve_by-keeps (classify_at S r.lower r.upper v) v r h

  -- with no bound the first excluded value is kept
  walk-says : (l u : Bound Val) (e : List Val) → Speaks l u e →
      SaysR (resolve_excluded S e (record { lower = l; upper = u; kept = []; crossed = false }))
  walk-says (at i v) u e h =
      walk-keeps e (record { lower = at i v; upper = u; kept = []; crossed = false }) (inl refl)
  walk-says absent (at i v) e h =
      walk-keeps e (record { lower = absent; upper = at i v; kept = []; crossed = false }) (inr (inl refl))
  walk-says absent absent (v ∷ e) h =
      walk-keeps e (range_with S absent absent (insert S v [])) (inr (inr (insert-full S v [])))
  walk-says absent absent [] (inl h) = absurd (true≢false h)
  walk-says absent absent [] (inr (inl h)) = absurd (true≢false h)
  walk-says absent absent [] (inr (inr h)) = absurd (true≢false h)

  resolve_says : (q : ColumnConstraints Val) → Says q → Says (resolve_deferred S q)
  resolve_says q h = walk-says q.lower q.upper q.excluded h

  -- ---- writing
  parts_full : (l u : Bound Val) (e : List Val) → Speaks l u e →
      is_empty (of_bound IsLower l ++ (of_bound IsUpper u ++ map IsNotEq e)) ≡ false
  parts_full (at i v) u e h = refl
  parts_full absent (at i v) e h = refl
  parts_full absent absent (v ∷ e) h = refl
  parts_full absent absent [] (inl h) = absurd (true≢false h)
  parts_full absent absent [] (inr (inl h)) = absurd (true≢false h)
  parts_full absent absent [] (inr (inr h)) = absurd (true≢false h)

  column-full : (q : ColumnConstraints Val) → Says q → is_empty (collect_column_comparisons S q) ≡ false
  column-full q h = go (fixed_at S q.lower q.upper)
    where
      go : (o : Option Val) → is_empty (collect_by o q) ≡ false
      go (some v) = refl
      go none = parts_full q.lower q.upper q.excluded h

  of_column-full : (c : ℕ) (l : List (ColumnComparison Val)) → is_empty l ≡ false → is_empty (of_column c l) ≡ false
  of_column-full c [] h = h
  of_column-full c (x ∷ l) h = refl

  -- ---- The table: a column that entered says something.
  abbrev Shown : List ℕ → Table Val → Type 0
  Shown cs t = (c : ℕ) × In S c cs × Says (t c)

  abbrev Keeps : Table Val → Table Val → Type 0
  Keeps t u = (c : ℕ) → Says (t c) → Says (u c)

  shown-map : (cs : List ℕ) (t u : Table Val) → Keeps t u → Shown cs t → Shown cs u
  shown-map cs t u k h = (h.0, h.1, k h.0 h.2)

  comparisons-full : (cs : List ℕ) (t : Table Val) (c : ℕ) → In S c cs → Says (t c) →
      is_empty (comparisons S cs t) ≡ false
  comparisons-full [] t c i h = absurd i
  comparisons-full (d ∷ cs) t c (inl e) h =
      full-left (of_column d (collect_column_comparisons S (t d))) (comparisons S cs t)
      (of_column-full d (collect_column_comparisons S (t d)) (column-full (t d) (subst (λ x. Says (t x)) e h)))
  comparisons-full (d ∷ cs) t c (inr i) h =
      full-right (of_column d (collect_column_comparisons S (t d))) (comparisons S cs t) (comparisons-full cs t c i h)

  -- ---- passes
  edge-keeps : (a b : ℕ) (t : Table Val) → Keeps t (merge_edge S a b t)
  edge-keeps a b t c =
      edge-ind S (λ c q. Says (t c) → Says q) a b t (λ c h. h) (λ h. merge_keeps (t b) (t a) h)
      (λ h. merge_keeps (t a) (merged_right S a b t) h) (eqb a b) c

  pass-keeps : (es : List (ℕ × ℕ × ℕ)) (t : Table Val) → Keeps t (pass S es t)
  pass-keeps [] t c h = h
  pass-keeps (e ∷ es) t c h = pass-keeps es (merge_edge S e.0 e.1 t) c (edge-keeps e.0 e.1 t c h)

  propagate-keeps : (n : ℕ) (es : List (ℕ × ℕ × ℕ)) (t : Table Val) → Keeps t (propagate S n es t)
  propagate-keeps zero es t c h = h
  propagate-keeps (suc n) es t c h =
      go (pass_any S es t) (propagate-keeps n es (pass S es t) c (pass-keeps es t c h))
    where
      go : (b : Bool) → Says (propagate S n es (pass S es t) c) →
          Says (cond b (propagate S n es (pass S es t)) (pass S es t) c)
      go true k = k
      go false k = pass-keeps es t c h

  edge-shown : (cs : List ℕ) (a b : ℕ) (t : Table Val) → In S a cs → In S b cs → edge_emitted S a b t ≡ true →
      Shown cs (merge_edge S a b t)
  edge-shown cs a b t i j h = go (eqb a b) refl h
    where
      one : eqb a b ≡ false →
          (merge_emitted S (t b) (t a) ≡ true) ⊎ (merge_emitted S (t a) (merged_right S a b t) ≡ true) →
          Shown cs (merge_edge_if S false a b t)
      one e (inl k) = (b, j, subst Says (sym (at_b S a b t e)) (merged_says (t b) (t a) k))
      one e (inr k) = (a, i, subst Says (sym (at_a S a b t)) (merged_says (t a) (merged_right S a b t) k))

      go : (o : Bool) → eqb a b ≡ o →
          (not o && (merge_emitted S (t b) (t a) || merge_emitted S (t a) (merged_right S a b t))) ≡ true →
          Shown cs (merge_edge_if S o a b t)
      go true e h = absurd (true≢false (sym h))
      go false e h = one e (either (merge_emitted S (t b) (t a)) (merge_emitted S (t a) (merged_right S a b t)) h)

  pass-shown : (cs : List ℕ) (es : List (ℕ × ℕ × ℕ)) (t : Table Val) → EdgesIn S cs es → pass_emitted S es t ≡ true →
      Shown cs (pass S es t)
  pass-shown cs [] t i h = absurd (true≢false (sym h))
  pass-shown cs (e ∷ es) t i h =
      go (either (edge_emitted S e.0 e.1 t) (pass_emitted S es (merge_edge S e.0 e.1 t)) h)
      (λ k. pass-shown cs es (merge_edge S e.0 e.1 t) i.1 k)
    where
      go : (edge_emitted S e.0 e.1 t ≡ true) ⊎ (pass_emitted S es (merge_edge S e.0 e.1 t) ≡ true) →
          (pass_emitted S es (merge_edge S e.0 e.1 t) ≡ true →
          Shown cs (pass S es (merge_edge S e.0 e.1 t))) → Shown cs (pass S es (merge_edge S e.0 e.1 t))
      go (inl k) ih =
          shown-map cs (merge_edge S e.0 e.1 t) (pass S es (merge_edge S e.0 e.1 t))
          (pass-keeps es (merge_edge S e.0 e.1 t)) (edge-shown cs e.0 e.1 t i.0.0 i.0.1 k)
      go (inr k) ih = ih k

  -- something that is written out was propagated
  propagate-shown : (cs : List ℕ) (n : ℕ) (es : List (ℕ × ℕ × ℕ)) (t : Table Val) → EdgesIn S cs es →
      propagate_emitted S n es t ≡ true → Shown cs (propagate S n es t)
  propagate-shown cs zero es t i h = absurd (true≢false (sym h))
  propagate-shown cs (suc n) es t i h =
      go (pass_any S es t) (either (pass_emitted S es t) (cond (pass_any S es t) (propagate_emitted S n es (pass S es t))
      false) h) (λ k. propagate-shown cs n es (pass S es t) i k)
    where
      now : pass_emitted S es t ≡ true → Shown cs (pass S es t)
      now k = pass-shown cs es t i k

      go : (b : Bool) →
          (pass_emitted S es t ≡ true) ⊎ (cond b (propagate_emitted S n es (pass S es t)) false ≡ true) →
          (propagate_emitted S n es (pass S es t) ≡ true → Shown cs (propagate S n es (pass S es t))) →
          Shown cs (cond b (propagate S n es (pass S es t)) (pass S es t))
      go true (inl k) ih =
          shown-map cs (pass S es t) (propagate S n es (pass S es t)) (propagate-keeps n es (pass S es t)) (now k)
      go true (inr k) ih = ih k
      go false (inl k) ih = now k
      go false (inr k) ih = absurd (true≢false (sym k))

  -- an equality was dropped, for the fixed value of its left column
  dropped_shown : (cs : List ℕ) (t : Table Val) (es : List (ℕ × ℕ × ℕ)) → EdgesIn S cs es →
      dropped_equality S t es ≡ true → Shown cs t
  dropped_shown cs t [] i h = absurd (true≢false (sym h))
  dropped_shown cs t (e ∷ es) i h =
      go (fixed_value S (t e.0)) refl h (λ k. dropped_shown cs t es i.1 k)
    where
      go : (o : Option Val) → fixed_value S (t e.0) ≡ o → (is_fixed o || dropped_equality S t es) ≡ true →
          (dropped_equality S t es ≡ true → Shown cs t) → Shown cs t
      go (some v) f h ih = (e.0, i.0.0, inl (fixed_lower S (t e.0).lower (t e.0).upper v f))
      go none f h ih = ih h

  -- ---- collecting
  -- Bounds say something.
  abbrev Begins : List (Constraint Val) → Type 0
  Begins [] = ⊥
  Begins (a ∷ l) = Emitted a

  abbrev Reads : Conjunct Val → Type 0
  Reads (Bounds c l) = Begins l
  Reads (Normalized c l) = Begins l
  Reads (Equality a b n) = Unit {0}
  Reads (Recorded z n c l) = Unit {0}
  Reads (NonNullPair n a b) = Unit {0}
  Reads (Opaque n) = Unit {0}

  abbrev AllRead : List (Conjunct Val) → Type 0
  AllRead [] = Unit {0}
  AllRead (x ∷ l) = Reads x × AllRead l

  bounds-say : (l : List (Constraint Val)) (q : ColumnConstraints Val) → Begins l → (add_all S l q).unsat ≡ false →
      Says (add_all S l q)
  bounds-say [] q h u = absurd h
  bounds-say (a ∷ l) q h u = add_all-keeps l (add S a q) (add-says a q h (add_all-live S (a ∷ l) q u))

  add_to-keeps : (c : ℕ) (l : List (Constraint Val)) (t : Table Val) → Keeps t (add_to S c l t)
  add_to-keeps c l t =
      upd_ind S (λ d q. Says (t d) → Says q) t c (add_all S l (t c)) (λ d h. h) (add_all-keeps l (t c))

  pair_keeps : (a b : ℕ) (t : Table Val) → Keeps t (require_non_null S b (require_non_null S a t))
  pair_keeps a b t c h =
      add_to-keeps b (Require NonNull ∷ []) (require_non_null S a t) c (add_to-keeps a (Require NonNull ∷ []) t c h)

  -- Once a conjunct became bounds, and reading did not stop, a column says something.
  abbrev Counted : Collected Val → Type 0
  Counted s = s.unsat ≡ false → (1 ≤ s.bound_conjuncts) ⊎ (s.normalized ≡ true) → Shown s.order s.constraints

  bounds-shown : (c : ℕ) (l : List (Constraint Val)) (s : Collected Val) → Begins l →
      (add_all S l (s.constraints c)).unsat ≡ false → Shown (enter c s.order) (add_to S c l s.constraints)
  bounds-shown c l s r live = (
    c,
    enter-in S c s.order,
    subst Says (sym (upd_self S s.constraints c (add_all S l (s.constraints c))))
        (bounds-say l (s.constraints c) r live),
  )

  collect_one-counted : (x : Conjunct Val) (s : Collected Val) → Reads x → s.unsat ≡ false → Counted s →
      Counted (collect_one S x s)
  collect_one-counted (Bounds c l) s r u k = λ live n. bounds-shown c l s r live
  collect_one-counted (Normalized c l) s r u k = λ live n. bounds-shown c l s r live
  collect_one-counted (Equality a b m) s r u k =
      λ live n. let h = k u n in (
        h.0,
        in_enter S h.0 b (enter a s.order) (in_enter S h.0 a s.order h.1),
        pair_keeps a b s.constraints h.0 h.2,
      )
  collect_one-counted (Recorded z m c l) s r u k =
      λ live n. let h = k u n in
      (h.0, in_enter S h.0 c s.order h.1, add_to-keeps c l s.constraints h.0 h.2)
  collect_one-counted (NonNullPair m a b) s r u k =
      λ live n. let h = k u n in (
        h.0,
        in_enter S h.0 b (enter a s.order) (in_enter S h.0 a s.order h.1),
        pair_keeps a b s.constraints h.0 h.2,
      )
  collect_one-counted (Opaque m) s r u k = λ live n. k u n

  collect-counted : (l : List (Conjunct Val)) (s : Collected Val) → AllRead l → Counted s → Counted (collect S l s)
  collect-counted [] s r k = k
  collect-counted (x ∷ l) s r k = collect-counted l (cond s.unsat s (collect_one S x s)) r.1 (go s.unsat refl)
    where
      go : (b : Bool) → s.unsat ≡ b → Counted (cond b s (collect_one S x s))
      go true e = k
      go false e = collect_one-counted x s r.0 e k

  -- ---- the outcome
  abbrev Compares : Outcome Val → Type 0
  Compares Unchanged = Unit {0}
  Compares NothingPasses = Unit {0}
  Compares (Rebuilt ns cs) = is_empty cs ≡ false

  module _ (s : Collected Val) (k : Counted s) (i : EdgesIn S s.order s.edges) where
    shown-full : Shown s.order (propagated S s) → is_empty (comparisons S s.order (resolved S s)) ≡ false
    shown-full h =
        comparisons-full s.order (resolved S s) h.0 h.1 (resolve_says (propagated S s h.0) h.2)

    -- each of the four reasons to rebuild
    reason : s.unsat ≡ false → rewrites S s ≡ true → Shown s.order (propagated S s)
    reason u h = go (either (ltb n s.bound_conjuncts) (s.normalized || (moved || dropped)) h)
      where
        n : ℕ
        n = length (comparisons S s.order (resolved S s))

        moved : Bool
        moved = propagate_emitted S (length s.order) s.edges s.constraints

        dropped : Bool
        dropped = dropped_equality S (propagated S s) s.edges

        collected : Shown s.order s.constraints → Shown s.order (propagated S s)
        collected h = shown-map s.order s.constraints (propagated S s)
            (propagate-keeps (length s.order) s.edges s.constraints) h

        last : (moved ≡ true) ⊎ (dropped ≡ true) → Shown s.order (propagated S s)
        last (inl e) = propagate-shown s.order (length s.order) s.edges s.constraints i e
        last (inr e) = dropped_shown s.order (propagated S s) s.edges i e

        rest : (s.normalized ≡ true) ⊎ ((moved || dropped) ≡ true) → Shown s.order (propagated S s)
        rest (inl e) = collected (k u (inr e))
        rest (inr e) = last (either moved dropped e)

        go : (ltb n s.bound_conjuncts ≡ true) ⊎ ((s.normalized || (moved || dropped)) ≡ true) →
            Shown s.order (propagated S s)
        go (inl e) =
            let l : n < s.bound_conjuncts = ltb-true n s.bound_conjuncts e in collected (k u (inl (omega arith)))
        go (inr e) = rest (either s.normalized (moved || dropped) e)

    conclude-compares : Compares (conclude S s)
    conclude-compares = go (s.unsat || any_unsat s.order (resolved S s)) refl (rewrites S s) refl
      where
        go : (b : Bool) → (s.unsat || any_unsat s.order (resolved S s)) ≡ b → (d : Bool) → rewrites S s ≡ d →
            Compares (cond b NothingPasses (cond d (rebuilt S s) Unchanged))
        go true e d f = tt
        go false e true f = shown-full (reason (neither s.unsat (any_unsat s.order (resolved S s)) e) f)
        go false e false f = tt

  none_yet : (1 ≤ 0) ⊎ (false ≡ true) → ⊥
  none_yet (inl h) = omega (arith, h)
  none_yet (inr h) = true≢false (sym h)

  merge_compares : (l : List (Conjunct Val)) → AllRead l → Compares (merge_filter_constraints S l)
  merge_compares l r =
      conclude-compares (collect S l begin) (collect-counted l begin r (λ live n. absurd (none_yet n)))
      (collect-in S l begin tt)

  -- ---- every conjunct that becomes bounds says something
  comparison_begins : (o : Comparison) (v : Val) → Begins (comparison_constraints o v)
  comparison_begins Eq v = tt
  comparison_begins NotEq v = tt
  comparison_begins Lt v = tt
  comparison_begins LtEq v = tt
  comparison_begins Gt v = tt
  comparison_begins GtEq v = tt

  reads : (R : ℕ → AExpr Val) (n : ℕ) → Reads (classify R n)
  reads R n =
      classify-ind (λ x. Unit {0}) Reads
      (record {
        opaque = λ n. tt;
        entered = λ n c p. tt;
        compared = λ c o v p q. comparison_begins o v;
        normalized = λ c o v p q. comparison_begins o v;
        between = λ c i j v w p q r. tt;
        equal = λ a b n p q. tt;
        paired = λ n a b p q. tt;
        recorded = λ z n c x o p. tt;
      })
      R (λ x. tt) n

  all_read : (R : ℕ → AExpr Val) (l : List ℕ) → AllRead (map (classify R) l)
  all_read R [] = tt
  all_read R (n ∷ l) = (reads R n, all_read R l)

  -- a rebuilt chain has a comparison
  pub rebuilt-compares : RebuiltCompares S
  rebuilt-compares R nodes ns cs e = subst Compares e (merge_compares (map (classify R) nodes) (all_read R nodes))

-- ---- The root of a rebuilt chain is one of the records added.
pub nodes_full : (u : ℕ) (cs : List (ℕ × ColumnComparison ℕ)) → is_empty cs ≡ false →
    is_empty (comparison_nodes u cs) ≡ false
nodes_full u [] h = h
nodes_full u (x ∷ cs) h = refl

and_root-new : (used u acc : ℕ) (l : List ℕ) → used ≤ u → used ≤ acc → used ≤ and_root u acc l
and_root-new used u acc [] h k = k
and_root-new used u acc (n ∷ l) h k = and_root-new used (suc u) u l (omega arith) h

-- with two conjuncts or more it is the last And
fold-root_new : (used u n : ℕ) (l : List ℕ) → used ≤ u → is_empty l ≡ false → used ≤ and_root u n l
fold-root_new used u n [] h f = absurd (true≢false f)
fold-root_new used u n (m ∷ l) h f = and_root-new used (suc u) u l (omega arith) h

pub chain-root_new : (used : ℕ) (ns : List ℕ) (cs : List (ℕ × ColumnComparison ℕ)) → is_empty cs ≡ false →
    used ≤ chain_root used ns cs
chain-root_new used ns [] h = absurd (true≢false h)
chain-root_new used [] (x ∷ cs) h =
    let k : suc (suc (suc used)) ≤ comparisons_end (suc (suc (suc used))) cs =
    comparisons-end cs (suc (suc (suc used))) in
    and_root-new used (comparisons_end used (x ∷ cs)) (suc (suc used)) (comparison_nodes (suc (suc (suc used))) cs)
    (omega arith) (omega arith)
chain-root_new used (n ∷ ns) (x ∷ cs) h =
    fold-root_new used (comparisons_end used (x ∷ cs)) n (ns ++ comparison_nodes used (x ∷ cs))
    (comparisons-end (x ∷ cs) used) (full-right ns (comparison_nodes used (x ∷ cs)) refl)

-- and it is the last of them but none behind it
and_root-last : (u acc : ℕ) (l : List ℕ) → acc < u → and_root u acc l < ands_end u l
and_root-last u acc [] h = h
and_root-last u acc (n ∷ l) h = and_root-last (suc u) u l (omega arith)

fold-root_last : (u n : ℕ) (l : List ℕ) → is_empty l ≡ false → and_root u n l < ands_end u l
fold-root_last u n [] f = absurd (true≢false f)
fold-root_last u n (m ∷ l) f = and_root-last (suc u) u l (omega arith)

pub chain-root_last : (used : ℕ) (ns : List ℕ) (cs : List (ℕ × ColumnComparison ℕ)) → is_empty cs ≡ false →
    chain_root used ns cs < chain_used used ns cs
chain-root_last used ns [] h = absurd (true≢false h)
chain-root_last used [] (x ∷ cs) h =
    let k : suc (suc (suc used)) ≤ comparisons_end (suc (suc (suc used))) cs =
    comparisons-end cs (suc (suc (suc used))) in
    and_root-last (comparisons_end used (x ∷ cs)) (suc (suc used)) (comparison_nodes (suc (suc (suc used))) cs)
    (omega arith)
chain-root_last used (n ∷ ns) (x ∷ cs) h =
    fold-root_last (comparisons_end used (x ∷ cs)) n (ns ++ comparison_nodes used (x ∷ cs))
    (full-right ns (comparison_nodes used (x ∷ cs)) refl)

-- What an answer says of its root.
abbrev pub NewRoot : ℕ → ℕ → RewriteAnswer → Type 0
NewRoot used root (answer.Refused k) = Unit {0}
NewRoot used root answer.Unchanged = Unit {0}
NewRoot used root (answer.NothingPasses new_root new_used) = Unit {0}
NewRoot used root (answer.Rewritten new_root new_used) = (root < used) × (used ≤ new_root) × (new_root < new_used)

-- of an outcome whose chain has a comparison
pub outcome_new_root : (t rs : List ℕ) (used root : ℕ) → root < used → (o : Outcome ℕ) →
    ((ns : List ℕ) (cs : List (ℕ × ColumnComparison ℕ)) → o ≡ Rebuilt ns cs → is_empty cs ≡ false) →
    NewRoot used root (outcome_answer t rs used o)
outcome_new_root t rs used root l Unchanged full = tt
outcome_new_root t rs used root l NothingPasses full = cut (has_room rs (suc used))
  where
    cut : (b : Bool) →
        NewRoot used root (cond b (answer.NothingPasses used (suc used)) (answer.Refused 11))
    cut true = tt
    cut false = tt
outcome_new_root t rs used root l (Rebuilt ns cs) full = cut (chain_fits t rs used ns cs)
  where
    cut : (c : Bool) →
        NewRoot used root
        (cond c (answer.Rewritten (chain_root used ns cs) (chain_used used ns cs)) (answer.Refused 11))
    cut true = (l, chain-root_new used ns cs (full ns cs refl), chain-root_last used ns cs (full ns cs refl))
    cut false = tt

new-root : (t rs p : List ℕ) (used root : ℕ) → NewRoot used root (rewrite_answer t rs p used root)
unfolding rewrite_answer
new-root t rs p used root =
    go (check_answer t rs p used root) refl (ltb 4096 (tree_count rs root))
    (ltb 128 (length (minterms (aexpr_at rs p used) root)))
  where
    go : (c : CheckAnswer) → check_answer t rs p used root ≡ c → (b d : Bool) →
        NewRoot used root (rewrite_if c (cond b (answer.Refused 8) (cond d (answer.Refused 9)
        (outcome_answer t rs used (outcome_of rs p used root)))))
    go (check.Refused k) e b d = tt
    go check.Accepted e true d = tt
    go check.Accepted e false true = tt
    go check.Accepted e false false =
        outcome_new_root t rs used root (checked t rs p used root e).root-used (outcome_of rs p used root)
        (rebuilt-compares payload (aexpr_at rs p used) (minterms (aexpr_at rs p used) root))

-- a rewritten screen never has the old root
pub rewritten_root_is_new : RewrittenRootIsNew
rewritten_root_is_new t rs p used root new_root new_used e =
    subst (NewRoot used root) e (new-root t rs p used root)
