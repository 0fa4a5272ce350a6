-- The comparisons of a resolved column, read back into a column that had no bound: its bounds and excluded values are
-- those of the resolved column.
use mathlib.Core.Path.{◌≡◌, refl, sym, ◌∙◌, ap, subst}
use mathlib.Core.Bool.{Bool, true, false, ◌&&◌, true≢false, cond, and-true}
use mathlib.Core.List.{List, [], ◌∷◌, ◌++◌, append_assoc, append-nil, map}
use mathlib.Core.Option.{Option, none, some, none-ne-some, some-injective}
use Prim.Native.Nat.{ℕ}
use Rattle.truth.proofs.Orders.{cmp-refl}
use Rattle.truth.specs.Order.{is_equal}
use Rattle.constraints.proofs.Bounds.{SameBound}
use Rattle.constraints.proofs.Columns.{obeys_all}
use Rattle.constraints.proofs.Resolved.{comparison_true}
use Rattle.constraints.specs.Bound.{Bound, absent, at, crosses, of_bound}
use Rattle.constraints.specs.Column.{ColumnConstraints, Constraint, Lower, Upper, Exclude, column, add_all, emitted}
use Rattle.constraints.specs.Comparisons.{ColumnComparison, IsEq, IsLower, IsNotEq, IsUpper, collect_by}
use Rattle.constraints.specs.Comparisons.{collect_column_comparisons}
use Rattle.constraints.specs.Resolve.{fixed_at}
use Rattle.constraints.specs.Scalars.{Scalars, opposite}
use Rattle.constraints.specs.Values.{contains}
use Rattle.constraints.specs.declared.column.Nullability.{Nullability}
use Rattle.merge.specs.Classify.{Conjunct, Bounds, comparison_constraints}
use Rattle.merge.specs.Rebuild.{comparison_of, value_of}
use Rattle.truth.specs.Comparison.{Eq}
use Rattle.merge.proofs.Comparisons.{comparison_obeyed}
use Rattle.merge.proofs.Settled.{Settled, Agree, AllNew}

-- What a written comparison tells its column, and the conjunct that it is read as.
abbrev pub told : {Val : Type 0} → ColumnComparison Val → List (Constraint Val)
told x = comparison_constraints (comparison_of x) (value_of x)

abbrev pub conjunct_of : {Val : Type 0} → (ℕ × ColumnComparison Val) → Conjunct Val
conjunct_of x = Bounds x.0 (told x.1)

abbrev pub told_all : {Val : Type 0} → List (ColumnComparison Val) → List (Constraint Val)
told_all [] = []
told_all (x ∷ l) = told x ++ told_all l

module _ {Val : Type 0} where
  told-append : (l m : List (ColumnComparison Val)) → told_all (l ++ m) ≡ told_all l ++ told_all m
  told-append [] m = refl
  told-append (x ∷ l) m = ap (λ k. told x ++ k) (told-append l m) ∙ sym (append_assoc (told x) (told_all l) (told_all m))

  told-lower : (b : Bound Val) → told_all (of_bound IsLower b) ≡ of_bound Lower b
  told-lower absent = refl
  told-lower (at true v) = refl
  told-lower (at false v) = refl

  told-upper : (b : Bound Val) → told_all (of_bound IsUpper b) ≡ of_bound Upper b
  told-upper absent = refl
  told-upper (at true v) = refl
  told-upper (at false v) = refl

  told-excluded : (m : List Val) → told_all (map IsNotEq m) ≡ map Exclude m
  told-excluded [] = refl
  told-excluded (v ∷ m) = ap (λ k. Exclude v ∷ k) (told-excluded m)

  pub told-emitted : (q : ColumnConstraints Val) → told_all (collect_by none q) ≡ emitted q
  told-emitted q = rw (
    told-append (of_bound IsLower q.lower) (of_bound IsUpper q.upper ++ map IsNotEq q.excluded),
    told-append (of_bound IsUpper q.upper) (map IsNotEq q.excluded),
    told-lower q.lower,
    told-upper q.upper,
    told-excluded q.excluded,
  )

-- A column without bounds and excluded values.
abbrev pub Bare : {Val : Type 0} → ColumnConstraints Val → Type 0
Bare q = (q.lower ≡ absent) × (q.upper ≡ absent) × (q.excluded ≡ [])

-- A fixed column is read back with its one value at both ends.
abbrev pub upper_by : {Val : Type 0} → Option Val → Bound Val → Bound Val
upper_by none u = u
upper_by (some v) u = at true v

module _ {K Val : Type 0} (S : Scalars K Val) where
  abbrev pub reread_upper : ColumnConstraints Val → Bound Val
  reread_upper m = upper_by (fixed_at S m.lower m.upper) m.upper

  -- What m was written as, read into q.
  abbrev pub reread : ColumnConstraints Val → ColumnConstraints Val → ColumnConstraints Val
  reread m q =
      column m.lower (reread_upper m) m.excluded q.allowed q.disallowed q.strict q.nullability false

  module _ (a : Option (List Val)) (d : List Val) (s : Bool) (n : Nullability) where
    excludes_in : (e : List Val) (l u : Bound Val) (m : List Val) → AllNew S m e →
        add_all S (map Exclude e) (column l u m a d s n false) ≡ column l u (m ++ e) a d s n false
    excludes_in [] l u m h = ap (λ k. column l u k a d s n false) (sym (append-nil m))
    excludes_in (v ∷ e) l u m h =
        ap (λ b. add_all S (map Exclude e) (column l u (cond b m (m ++ (v ∷ []))) a d s n false)) h.0
        ∙ excludes_in e l u (m ++ (v ∷ [])) h.1
        ∙ ap (λ k. column l u k a d s n false) (append_assoc m (v ∷ []) e)

    emitted-in : (l u : Bound Val) (e : List Val) → crosses S l u ≡ false → AllNew S [] e →
        add_all S (of_bound Lower l ++ (of_bound Upper u ++ map Exclude e)) (column absent absent [] a d s n false)
        ≡ column l u e a d s n false
    emitted-in absent absent e x h = excludes_in e absent absent [] h
    emitted-in absent (at c v) e x h = excludes_in e absent (at c v) [] h
    emitted-in (at c v) absent e x h = excludes_in e (at c v) absent [] h
    emitted-in (at c v) (at b w) e x h =
        ap (λ z. add_all S (map Exclude e) (column (at c v) (at b w) [] a d s n z)) x
        ∙ excludes_in e (at c v) (at b w) [] h

    equal-in : (v : Val) → add_all S (Lower true v ∷ (Upper true v ∷ [])) (column absent absent [] a d s n false)
        ≡ column (at true v) (at true v) [] a d s n false
    equal-in v = rw (cmp-refl S.total (S.key v))

  pub fixed_is_lower : (l u : Bound Val) (v : Val) → fixed_at S l u ≡ some v → l ≡ at true v
  fixed_is_lower absent u v e = absurd (none-ne-some v e)
  fixed_is_lower (at false w) u v e = absurd (none-ne-some v e)
  fixed_is_lower (at true w) absent v e = absurd (none-ne-some v e)
  fixed_is_lower (at true w) (at c z) v e = go (c && is_equal (S.order.cmp (S.key w) (S.key z))) e
    where
      go : (b : Bool) → cond b (some w) none ≡ some v → at true w ≡ at true v
      go true e = ap (at true) (some-injective w v e)
      go false e = absurd (none-ne-some v e)

  abbrev pub FixedAlone : ColumnConstraints Val → Type 0
  FixedAlone m = (v : Val) → fixed_at S m.lower m.upper ≡ some v → m.excluded ≡ []

  pub read_back_lem : (m q : ColumnConstraints Val) → Settled S m → FixedAlone m → Bare q → q.unsat ≡ false →
      add_all S (told_all (collect_column_comparisons S m)) q ≡ reread m q
  read_back_lem m q h f b s = ap (add_all S (told_all (collect_column_comparisons S m))) p
      ∙ go (fixed_at S m.lower m.upper) refl
    where
      bare : ColumnConstraints Val
      bare = column absent absent [] q.allowed q.disallowed q.strict q.nullability false

      p : q ≡ bare
      p = λ i. column (b.0 i) (b.1 i) (b.2 i) q.allowed q.disallowed q.strict q.nullability (s i)

      go : (o : Option Val) → fixed_at S m.lower m.upper ≡ o → add_all S (told_all (collect_by o m)) bare
          ≡ column m.lower (upper_by o m.upper) m.excluded q.allowed q.disallowed q.strict
          q.nullability false
      go none e = ap (λ l. add_all S l bare) (told-emitted m)
          ∙ emitted-in q.allowed q.disallowed q.strict q.nullability m.lower m.upper m.excluded
          h.uncrossed h.once
      go (some v) e = equal-in q.allowed q.disallowed q.strict q.nullability v
          ∙ λ i. column (sym (fixed_is_lower m.lower m.upper v e) i) (at true v) (sym (f v e) i) q.allowed
          q.disallowed q.strict q.nullability false

  -- ---- what is read back is settled too
  pub reread_settled : (m q : ColumnConstraints Val) → Settled S m → FixedAlone m → Settled S (reread m q)
  reread_settled m q h f = go (fixed_at S m.lower m.upper) refl
    where
      go : (o : Option Val) → fixed_at S m.lower m.upper ≡ o → Settled S
          (column m.lower (upper_by o m.upper) m.excluded q.allowed q.disallowed q.strict
          q.nullability false)
      go none e = record { between = h.between; uncrossed = h.uncrossed; once = h.once }
      go (some v) e =
          record {
            between = λ k c. absurd (true≢false (sym c ∙ ap (contains S k) (f v e)));
            uncrossed = ap (λ b. crosses S b (at true v)) (fixed_is_lower m.lower m.upper v e)
                ∙ rw (cmp-refl S.total (S.key v));
            once = h.once;
          }

  -- and written out as the same comparisons
  pub reread_written : (m q : ColumnConstraints Val) →
      collect_column_comparisons S (reread m q) ≡ collect_column_comparisons S m
  reread_written m q = go (fixed_at S m.lower m.upper) refl
    where
      again : (o : Option Val) → ColumnConstraints Val
      again o = column m.lower (upper_by o m.upper) m.excluded q.allowed q.disallowed q.strict
          q.nullability false

      point : (v : Val) → fixed_at S (at true v) (at true v) ≡ some v
      point v = rw (cmp-refl S.total (S.key v))

      go : (o : Option Val) → fixed_at S m.lower m.upper ≡ o →
          collect_by (fixed_at S m.lower (upper_by o m.upper)) (again o) ≡ collect_by o m
      go none e = ap (λ p. collect_by p (again none)) e
      go (some v) e = ap (λ p. collect_by p (again (some v)))
          (ap (λ b. fixed_at S b (at true v)) (fixed_is_lower m.lower m.upper v e) ∙ point v)

  -- ---- two columns that agree
  unfixed_too : (l u l' u' : Bound Val) → SameBound S l l' → SameBound (opposite S) u u' → fixed_at S l u ≡ none →
      fixed_at S l' u' ≡ none
  unfixed_too l u absent u' a b e = refl
  unfixed_too l u (at false w') u' a b e = refl
  unfixed_too l u (at true w') absent a b e = refl
  unfixed_too l u (at true w') (at false z') a b e = refl
  unfixed_too absent u (at true w') (at true z') a b e = absurd a
  unfixed_too (at c w) absent (at true w') (at true z') a b e = absurd b
  unfixed_too (at c w) (at d z) (at true w') (at true z') a b e = go (is_equal (S.order.cmp (S.key w') (S.key z')))
      (keys ∙ ap (λ x. fixed_at S (at true w) (at x z)) (sym b.1)
      ∙ ap (λ x. fixed_at S (at x w) (at d z)) (sym a.1) ∙ e)
    where
      keys : cond (is_equal (S.order.cmp (S.key w') (S.key z'))) (some w) none ≡ fixed_at S (at true w) (at true z)
      keys = rw (← a.0, ← b.0)

      go : (x : Bool) → cond x (some w) none ≡ none → cond x (some w') none ≡ none
      go true e = absurd (none-ne-some w (sym e))
      go false e = refl

  pub reread_agree : (m n q r : ColumnConstraints Val) → Agree S m n → fixed_at S m.lower m.upper ≡ none →
      Agree S (reread m q) (reread n r)
  reread_agree m n q r g e =
      let f = unfixed_too m.lower m.upper n.lower n.upper g.low g.up e in
      record {
        low = g.low;
        up = subst (λ b. SameBound (opposite S) b (reread_upper n)) (sym (ap (λ o. upper_by o m.upper) e))
            (subst (SameBound (opposite S) m.upper) (sym (ap (λ o. upper_by o n.upper) f)) g.up);
        exc = g.exc;
      }

  -- ---- what is told is what the comparison says
  pub told-true : (x : ColumnComparison Val) (v : Option K) → obeys_all S (told x) v ≡ comparison_true S x v
  told-true (IsEq v) none = refl
  told-true (IsEq v) (some k) = comparison_obeyed S Eq v k
  told-true (IsLower true v) none = refl
  told-true (IsLower true v) (some k) = simp and-true
  told-true (IsLower false v) none = refl
  told-true (IsLower false v) (some k) = simp and-true
  told-true (IsUpper true v) none = refl
  told-true (IsUpper true v) (some k) = simp and-true
  told-true (IsUpper false v) none = refl
  told-true (IsUpper false v) (some k) = simp and-true
  told-true (IsNotEq v) none = refl
  told-true (IsNotEq v) (some k) = simp and-true
