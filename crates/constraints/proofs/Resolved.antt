-- A resolved column: what is written out, and what is left of it.
use mathlib.Core.Path.{◌≡◌, refl, sym, ◌∙◌, ap, subst}
use mathlib.Core.Bool.{Bool, true, false, not, ◌&&◌, ◌||◌, and-true, and_assoc, true≢false, cond}
use mathlib.Core.List.{List, [], ◌∷◌, ◌++◌, map}
use mathlib.Core.Option.{Option, none, some, none-ne-some, some-injective}
use Rattle.truth.proofs.Orders.{cmp-eq, cmp-gt, cmp-lt}
use Rattle.truth.specs.Order.{View, above, equal_view, greater_view, less_view, is_equal}
use Rattle.std.specs.declared.cmp.Ordering.{Ordering}
use Rattle.std.specs.declared.cmp.Ordering.TheVariants.{Equal}
use Rattle.constraints.proofs.Columns.{admits_emitted, not-or}
use Rattle.constraints.proofs.Merges.{or_no}
use Rattle.constraints.proofs.Resolves.{fixed_lower, with_excluded-ranged, within, resolve_if, range_of}
use Rattle.constraints.specs.Bound.{Bound, absent, at, clears, crosses, is_absent, of_bound}
use Rattle.constraints.specs.Column.{Allow, ColumnConstraints, Constraint, Disallow, Exclude, Lower, Require}
use Rattle.constraints.specs.Column.{Upper, add, add_all, put}
use Rattle.constraints.specs.Comparisons.{ColumnComparison, IsEq, IsLower, IsNotEq, IsUpper, collect_by}
use Rattle.constraints.specs.Comparisons.{collect_column_comparisons}
use Rattle.constraints.specs.Resolve.{Range, allowed_feasible, classify_at, classify_by, classify_upper, fixed_at}
use Rattle.constraints.specs.Resolve.{fixed_disallowed, null_conflict, open_at, resolve_by}
use Rattle.constraints.specs.Resolve.{resolve_deferred, resolve_excluded, with_excluded}
use Rattle.constraints.specs.Scalars.{Scalars, opposite}
use Rattle.constraints.specs.Values.{contains, is_empty}
use Rattle.constraints.specs.declared.column.ExcludedResolution.{ExcludedResolution}
use Rattle.constraints.specs.declared.column.ExcludedResolution.TheVariants.{Drop, Keep, TightenLower}
use Rattle.constraints.specs.declared.column.ExcludedResolution.TheVariants.{TightenUpper}

module _ {K Val : Type 0} (S : Scalars K Val) where
  -- ---- R1: resolving shows what the column showed
  pub resolve_live : (q : ColumnConstraints Val) → (resolve_deferred S q).unsat ≡ false →
      (q.unsat ≡ false) × ((resolve_excluded S q.excluded (range_of q)).crossed ≡ false)
  resolve_live q h =
      let a = or_no (with_excluded S q).unsat
      (not (allowed_feasible S (with_excluded S q) q.allowed) || fixed_disallowed S (with_excluded S q)
      (fixed_at S (with_excluded S q).lower (with_excluded S q).upper)) h in
      let b = or_no q.unsat (null_conflict q || (resolve_excluded S q.excluded (range_of q)).crossed) a.0 in
      (b.0, (or_no (null_conflict q) (resolve_excluded S q.excluded (range_of q)).crossed b.1).1)

  emitted-range : (q : ColumnConstraints Val) (x : Option K) → admits_emitted S (resolve_deferred S q) x ≡
      within S (resolve_excluded S q.excluded (range_of q)) x
  emitted-range q none = refl
  emitted-range q (some k) = refl

  pub resolve_emitted : (q : ColumnConstraints Val) (x : Option K) → (resolve_deferred S q).unsat ≡ false →
      admits_emitted S (resolve_deferred S q) x ≡ admits_emitted S q x
  resolve_emitted q x h = emitted-range q x ∙
      sym (ap (λ b. not b && within S (resolve_excluded S q.excluded (range_of q)) x) (resolve_live q h).1) ∙
      with_excluded-ranged S q x

  -- ---- R2: no excluded value is left in a range that is a point
  is_keep : ExcludedResolution → Bool
  is_keep Drop = false
  is_keep Keep = true
  is_keep TightenLower = false
  is_keep TightenUpper = false

  keep-unfixed : (l u : Bound Val) (e : Val) → is_keep (classify_at S l u e) ≡ true → fixed_at S l u ≡ none
  unfolding is_keep
  keep-unfixed absent u e h = refl
  keep-unfixed (at false w) u e h = refl
  keep-unfixed (at true w) absent e h = refl
  keep-unfixed (at true w) (at false z) e h = refl
  keep-unfixed (at true w) (at true z) e h = go (S.total.view (S.key w) (S.key z))
      (S.total.view (S.key e) (S.key w)) h
    where
      go : {o p : Ordering} → View S.order.less (S.key w) (S.key z) o →
          View S.order.less (S.key e) (S.key w) p →
          is_keep (classify_by p true TightenLower (classify_upper S (at true z) e)) ≡ true →
          cond (is_equal o) (some w) none ≡ none
      go (less_view a) b h = refl
      go (greater_view a) b h = refl
      go (equal_view a) (less_view b) h = absurd (true≢false (sym h))
      go (equal_view a) (equal_view b) h = absurd (true≢false (sym h))
      go (equal_view a) (greater_view b) h =
          absurd (true≢false (sym h ∙ ap (λ o. is_keep (classify_by o true TightenUpper Keep))
          (cmp-lt S.total (subst (λ y. S.order.less y (S.key e)) a b))))

  abbrev Point : Range Val → Type 0
  Point r = (v : Val) → fixed_at S r.lower r.upper ≡ some v → r.kept ≡ []

  step-point : (r : Range Val) (e : Val) (f : ExcludedResolution) → classify_at S r.lower r.upper e ≡ f →
      Point r → Point (resolve_by S f e r)
  unfolding is_keep
  step-point r e Drop h p v k = p v k
  step-point r e Keep h p v k = absurd
      (none-ne-some v (sym (keep-unfixed r.lower r.upper e (ap is_keep h)) ∙ k))
  step-point r e TightenLower h p v k = absurd (none-ne-some v (open_low r.lower r.upper ∙ k))
    where
      open_low : (l u : Bound Val) → none ≡ fixed_at S (open_at S l e) u
      open_low absent u = refl
      open_low (at c w) u = refl
  step-point r e TightenUpper h p v k = absurd (none-ne-some v (shut r.lower r.upper ∙ k))
    where
      shut : (l u : Bound Val) → none ≡ fixed_at S l (open_at S u e)
      shut absent u = refl
      shut (at true w) absent = refl
      shut (at true w) (at c z) = refl
      shut (at false w) u = refl

  walk-point : (l : List Val) (r : Range Val) → Point r → Point (resolve_excluded S l r)
  walk-point [] r p = p
  walk-point (e ∷ l) r p = walk-point l (resolve_if S r.crossed e r) (go r.crossed)
    where
      go : (b : Bool) → Point (resolve_if S b e r)
      go true = p
      go false = step-point r e (classify_at S r.lower r.upper e) refl p

  pub fixed_excludes_nothing : (q : ColumnConstraints Val) (v : Val) → fixed_at S (resolve_deferred S q).lower
      (resolve_deferred S q).upper ≡ some v → (resolve_deferred S q).excluded ≡ []
  fixed_excludes_nothing q = walk-point q.excluded (range_of q) (λ v h. refl)

  -- ---- R3: a column that is not impossible has no crossing bounds
  abbrev pub Consistent : ColumnConstraints Val → Type 0
  Consistent q = q.unsat ≡ false → crosses S q.lower q.upper ≡ false

  put-consistent : (a : Constraint Val) (q : ColumnConstraints Val) → q.unsat ≡ false → Consistent q →
      Consistent (put S a q)
  put-consistent (Lower c v) q s h = λ e. e
  put-consistent (Upper c v) q s h = λ e. e
  put-consistent (Exclude v) q s h = h
  put-consistent (Allow l) q s h = h
  put-consistent (Disallow b l) q s h = h
  put-consistent (Require n) q s h = λ e. h s

  pub add-consistent : (a : Constraint Val) (q : ColumnConstraints Val) → Consistent q → Consistent (add S a q)
  add-consistent a q h = go q.unsat refl
    where
      go : (b : Bool) → q.unsat ≡ b → Consistent (cond b q (put S a q))
      go true e = h
      go false e = put-consistent a q e h

  pub add_all-consistent : (l : List (Constraint Val)) (q : ColumnConstraints Val) → Consistent q →
      Consistent (add_all S l q)
  add_all-consistent [] q h = h
  add_all-consistent (a ∷ l) q h = add_all-consistent l (add S a q) (add-consistent a q h)

  abbrev Straight : Range Val → Type 0
  Straight r = r.crossed ≡ false → crosses S r.lower r.upper ≡ false

  walk-straight : (l : List Val) (r : Range Val) → Straight r → Straight (resolve_excluded S l r)
  walk-straight [] r h = h
  walk-straight (e ∷ l) r h = walk-straight l (resolve_if S r.crossed e r) (go r.crossed)
    where
      fates : (f : ExcludedResolution) → Straight (resolve_by S f e r)
      fates Drop = λ x. x
      fates Keep = λ x. x
      fates TightenLower = λ x. x
      fates TightenUpper = λ x. x

      go : (b : Bool) → Straight (resolve_if S b e r)
      go true = h
      go false = fates (classify_at S r.lower r.upper e)

  pub resolve_consistent : (q : ColumnConstraints Val) → Consistent q → (resolve_deferred S q).unsat ≡ false →
      crosses S (resolve_deferred S q).lower (resolve_deferred S q).upper ≡ false
  resolve_consistent q c h = walk-straight q.excluded (range_of q) (λ e. c (resolve_live q h).0)
      (resolve_live q h).1

  -- ---- R4: the comparisons written out
  pub fixed_clears : (l u : Bound Val) (v : Val) → fixed_at S l u ≡ some v → (k : K) →
      is_equal (S.order.cmp k (S.key v)) ≡ (clears S l k && clears (opposite S) u k)
  fixed_clears absent u v e k = absurd (none-ne-some v e)
  fixed_clears (at false w) u v e k = absurd (none-ne-some v e)
  fixed_clears (at true w) absent v e k = absurd (none-ne-some v e)
  fixed_clears (at true w) (at false z) v e k = absurd (none-ne-some v e)
  fixed_clears (at true w) (at true z) v e k = go (S.total.view (S.key w) (S.key z)) (S.total.view (S.key w) k)
      e
    where
      same : (cond (is_equal Equal) (some w) none) ≡ some v → is_equal (S.order.cmp k (S.key v)) ≡
          is_equal (S.order.cmp k (S.key w))
      same e = ap (λ y. is_equal (S.order.cmp k (S.key y))) (sym (some-injective w v e))

      go : {o p : Ordering} → View S.order.less (S.key w) (S.key z) o → View S.order.less (S.key w) k p →
          cond (is_equal o) (some w) none ≡ some v → is_equal (S.order.cmp k (S.key v)) ≡
          (above true p && above true (S.order.cmp k (S.key z)))
      go (less_view a) b e = absurd (none-ne-some v e)
      go (greater_view a) b e = absurd (none-ne-some v e)
      go (equal_view a) (less_view b) e = same e ∙
          rw (cmp-gt S.total b, cmp-gt S.total (subst (λ y. S.order.less y k) a b))
      go (equal_view a) (equal_view b) e = same e ∙ rw (cmp-eq S.total (sym b), cmp-eq S.total (sym b ∙ a))
      go (equal_view a) (greater_view b) e = same e ∙ rw (cmp-lt S.total b)

module _ {K Val : Type 0} (S : Scalars K Val) where
  abbrev pub comparison_true : ColumnComparison Val → Option K → Bool
  comparison_true (IsEq v) none = false
  comparison_true (IsEq v) (some k) = is_equal (S.order.cmp k (S.key v))
  comparison_true (IsLower c v) none = false
  comparison_true (IsLower c v) (some k) = clears S (at c v) k
  comparison_true (IsUpper c v) none = false
  comparison_true (IsUpper c v) (some k) = clears (opposite S) (at c v) k
  comparison_true (IsNotEq v) none = false
  comparison_true (IsNotEq v) (some k) = not (is_equal (S.order.cmp k (S.key v)))

  abbrev pub comparisons_true : List (ColumnComparison Val) → Option K → Bool
  comparisons_true [] x = true
  comparisons_true (c ∷ l) x = comparison_true c x && comparisons_true l x

  ok_app : (l m : List (ColumnComparison Val)) (x : Option K) → comparisons_true (l ++ m) x ≡
      (comparisons_true l x && comparisons_true m x)
  ok_app [] m x = refl
  ok_app (c ∷ l) m x = rw (ok_app l m x)
      (sym (and_assoc (comparison_true c x) (comparisons_true l x) (comparisons_true m x)))

  parts_ok : (q : ColumnConstraints Val) (x : Option K) → comparisons_true (collect_by none q) x ≡ admits_emitted S q x
  parts_ok q x = ok_app (of_bound IsLower q.lower) (of_bound IsUpper q.upper ++ map IsNotEq q.excluded)
      x ∙ ap (λ b. comparisons_true (of_bound IsLower q.lower) x && b)
      (ok_app (of_bound IsUpper q.upper) (map IsNotEq q.excluded) x) ∙ fin x
    where
      low_n : (b : Bound Val) → comparisons_true (of_bound IsLower b) none ≡ is_absent b
      low_n absent = refl
      low_n (at c v) = refl

      up_n : (b : Bound Val) → comparisons_true (of_bound IsUpper b) none ≡ is_absent b
      up_n absent = refl
      up_n (at c v) = refl

      ne_n : (l : List Val) → comparisons_true (map IsNotEq l) none ≡ is_empty l
      ne_n [] = refl
      ne_n (v ∷ l) = refl

      low_s : (b : Bound Val) (k : K) → comparisons_true (of_bound IsLower b) (some k) ≡ clears S b k
      low_s absent k = refl
      low_s (at c v) k = and-true (clears S (at c v) k)

      up_s : (b : Bound Val) (k : K) → comparisons_true (of_bound IsUpper b) (some k) ≡ clears (opposite S) b k
      up_s absent k = refl
      up_s (at c v) k = and-true (clears (opposite S) (at c v) k)

      ne_s : (l : List Val) (k : K) → comparisons_true (map IsNotEq l) (some k) ≡ not (contains S k l)
      ne_s [] k = refl
      ne_s (v ∷ l) k = rw (ne_s l k) (sym (not-or (is_equal (S.order.cmp k (S.key v))) (contains S k l)))

      fin : (x : Option K) → (comparisons_true (of_bound IsLower q.lower) x &&
          (comparisons_true (of_bound IsUpper q.upper) x && comparisons_true (map IsNotEq q.excluded) x)) ≡
          admits_emitted S q x
      fin none = rw (low_n q.lower, up_n q.upper, ne_n q.excluded)
      fin (some k) = rw (low_s q.lower k, up_s q.upper k, ne_s q.excluded k)

  pub collected-is_exact : (q : ColumnConstraints Val) (x : Option K) →
      ((v : Val) → fixed_at S q.lower q.upper ≡ some v → q.excluded ≡ []) →
      comparisons_true (collect_column_comparisons S q) x ≡ admits_emitted S q x
  collected-is_exact q x p = go (fixed_at S q.lower q.upper) refl x
    where
      abs_l : (v : Val) → fixed_at S q.lower q.upper ≡ some v → is_absent q.lower ≡ false
      abs_l v e = fixed_lower S q.lower q.upper v e

      go : (o : Option Val) → fixed_at S q.lower q.upper ≡ o → (x : Option K) →
          comparisons_true (collect_by o q) x ≡ admits_emitted S q x
      go none e x = parts_ok q x
      go (some v) e none = sym (ap (λ b. b && (is_absent q.upper && is_empty q.excluded)) (abs_l v e))
      go (some v) e (some k) = ap (λ b. b && true) (fixed_clears S q.lower q.upper v e k) ∙
          and_assoc (clears S q.lower k) (clears (opposite S) q.upper k) true ∙
          ap (λ l. clears S q.lower k && (clears (opposite S) q.upper k && not (contains S k l))) (sym (p v e))
