-- Resolving excluded values, allowed lists and disallowed values against the final bounds.
use mathlib.Core.Path.{◌≡◌, refl, sym, ◌∙◌, ap, subst}
use mathlib.Core.Bool.{Bool, true, false, not, ◌&&◌, ◌||◌, and-true, and-false, and_assoc, true≢false, cond}
use mathlib.Core.List.{List, [], ◌∷◌}
use mathlib.Core.Option.{Option, none, some, none-ne-some, some-injective}
use mathlib.Core.Logic.{◌⊎◌, inl, inr}
use Rattle.truth.proofs.Orders.{cmp-eq, cmp-gt}
use Rattle.truth.specs.Order.{View, above, equal_view, greater_view, less_view, is_equal}
use Rattle.std.specs.declared.cmp.Ordering.{Ordering}
use Rattle.std.specs.declared.cmp.Ordering.TheVariants.{Equal, Greater, Less}
use Rattle.constraints.proofs.Bounds.{crossing_clears_nothing}
use Rattle.constraints.proofs.Columns.{admits, admits_emitted, admits_recorded, at_1, at-2, at-3, gone}
use Rattle.constraints.proofs.Columns.{insert-full, not-or, null_fits, value_fits}
use Rattle.constraints.proofs.Merges.{or_no}
use Rattle.constraints.proofs.Sets.{contains-insert}
use Rattle.constraints.specs.Bound.{Bound, absent, at, clears, crosses, is_absent}
use Rattle.constraints.specs.Column.{ColumnConstraints, is_none, is_null_required}
use Rattle.constraints.specs.Resolve.{Range, allowed_feasible, any_feasible, classify_at, classify_by}
use Rattle.constraints.specs.Resolve.{classify_upper, fixed_at, fixed_disallowed, is_allowed, is_feasible}
use Rattle.constraints.specs.Resolve.{null_conflict, open_at, resolve_by, resolve_deferred}
use Rattle.constraints.specs.Resolve.{resolve_excluded, with_excluded, with_lists}
use Rattle.constraints.specs.Scalars.{Scalars, opposite}
use Rattle.constraints.specs.Values.{contains, insert, is_empty}
use Rattle.constraints.specs.declared.column.ExcludedResolution.{ExcludedResolution}
use Rattle.constraints.specs.declared.column.ExcludedResolution.TheVariants.{Drop, Keep, TightenLower}
use Rattle.constraints.specs.declared.column.ExcludedResolution.TheVariants.{TightenUpper}
use Rattle.constraints.specs.declared.column.Nullability.{Nullability}
use Rattle.constraints.specs.declared.column.Nullability.TheVariants.{NonNull, Null, Unconstrained}

-- The range of a column before its excluded values are gone through.
abbrev pub range_of : {Val : Type 0} → ColumnConstraints Val → Range Val
range_of q = record { lower = q.lower; upper = q.upper; kept = []; crossed = false }

module _ {K Val : Type 0} (S : Scalars K Val) where
  -- One excluded value, by whether the range is empty already.
  abbrev pub resolve_if : Bool → Val → Range Val → Range Val
  resolve_if b e r = cond b r (resolve_by S (classify_at S r.lower r.upper e) e r)

module _ {K Val : Type 0} (S : Scalars K Val) where
  pub open_at-present : (b : Bound Val) (e : Val) → is_absent (open_at S b e) ≡ false
  open_at-present absent e = refl
  open_at-present (at c w) e = refl

  -- ---- what a range says of a value
  abbrev pub within : Range Val → Option K → Bool
  within r none = is_absent r.lower && (is_absent r.upper && is_empty r.kept)
  within r (some k) = clears S r.lower k && (clears (opposite S) r.upper k && not (contains S k r.kept))

  abbrev pub differs : Val → Option K → Bool
  differs e none = false
  differs e (some k) = not (is_equal (S.order.cmp k (S.key e)))

  except : (k e : K) (b : Bool) → (k ≡ e → b ≡ false) → (b && not (is_equal (S.order.cmp k e))) ≡ b
  except k e b h = go (S.total.view k e)
    where
      go : {o : Ordering} → View S.order.less k e o → (b && not (is_equal o)) ≡ b
      go (less_view p) = and-true b
      go (equal_view p) = rw (h p)
      go (greater_view p) = and-true b

  -- a closed lower bound and the value that opens it
  opened-low : (k e w : K) → e ≡ w → above false (S.order.cmp e k) ≡
      (above true (S.order.cmp w k) && not (is_equal (S.order.cmp k e)))
  opened-low k e w p = rw (← p) (go (S.total.view e k))
    where
      go : {o : Ordering} → View S.order.less e k o → above false o ≡
          (above true o && not (is_equal (S.order.cmp k e)))
      go (less_view h) = rw (cmp-gt S.total h)
      go (equal_view h) = rw (cmp-eq S.total (sym h))
      go (greater_view h) = refl

  opened_up : (k e w : K) → w ≡ e → above false (S.order.cmp k e) ≡
      (above true (S.order.cmp k w) && not (is_equal (S.order.cmp k e)))
  opened_up k e w p = rw p (go (S.order.cmp k e))
    where
      go : (o : Ordering) → above false o ≡ (above true o && not (is_equal o))
      go Less = refl
      go Equal = refl
      go Greater = refl

  abbrev range : Bound Val → Bound Val → List Val → Bool → Range Val
  range l u m b = record { lower = l; upper = u; kept = m; crossed = b }

  has-low : (f : ExcludedResolution) (e : Val) (c : Bool) (w : Val) (u : Bound Val) (m : List Val) (b : Bool) →
      within (resolve_by S f e (range (at c w) u m b)) none ≡ false
  has-low Drop e c w u m b = refl
  has-low Keep e c w u m b = refl
  has-low TightenLower e c w u m b = refl
  has-low TightenUpper e c w u m b = refl

  has-up : (f : ExcludedResolution) (e : Val) (l : Bound Val) (d : Bool) (w : Val) (m : List Val) (b : Bool) →
      within (resolve_by S f e (range l (at d w) m b)) none ≡ false
  has-up Drop e l d w m b = and-false (is_absent l)
  has-up Keep e l d w m b = and-false (is_absent l)
  has-up TightenLower e l d w m b = ap (λ x. x && (false && is_empty m)) (open_at-present l e)
  has-up TightenUpper e l d w m b = and-false (is_absent l)

  step-none : (l u : Bound Val) (e : Val) (m : List Val) (b : Bool) →
      within (resolve_by S (classify_at S l u e) e (range l u m b)) none ≡ false
  step-none absent absent e m b = insert-full S e m
  step-none absent (at d w) e m b = has-up (classify_at S absent (at d w) e) e absent d w m b
  step-none (at c v) u e m b = has-low (classify_at S (at c v) u e) e c v u m b

  gone_l : (a b : Bool) → a ≡ false → (a && b) ≡ false
  gone_l a b h = rw h

  gone_m : (a b c : Bool) → b ≡ false → (a && (b && c)) ≡ false
  gone_m a b c h = rw h (and-false a)

  step-up : (l u : Bound Val) (e : Val) (m : List Val) (b : Bool) (k : K) →
      within (resolve_by S (classify_upper S u e) e (range l u m b)) (some k) ≡
      (within (range l u m b) (some k) && differs e (some k))
  step-up l absent e m b k = rw (contains-insert S k e m, not-or)
      (sym (and_assoc (clears S l k) (not (contains S k m)) (differs e (some k))))
  step-up l (at d w) e m b k = go d (S.total.view (S.key w) (S.key e))
    where
      go : (d : Bool) {o : Ordering} → View S.order.less (S.key w) (S.key e) o →
          within (resolve_by S (classify_by o d TightenUpper Keep) e (range l (at d w) m b)) (some k) ≡
          (within (range l (at d w) m b) (some k) && differs e (some k))
      go d (less_view p) = sym (except k (S.key e) (within (range l (at d w) m b) (some k)) λ q. gone_m (clears S l k)
          (clears (opposite S) (at d w) k) (not (contains S k m))
          (rw (cmp-gt S.total (subst (S.order.less (S.key w)) (sym q) p))))
      go true (equal_view p) = rw (S.opened-key w e, opened_up k (S.key e) (S.key w) p)
          (at-2 (clears S l k) (above true (S.order.cmp k (S.key w))) (differs e (some k)) (not (contains S k m)))
      go false (equal_view p) = sym (except k (S.key e) (within (range l (at false w) m b) (some k)) λ q. gone_m
          (clears S l k) (clears (opposite S) (at false w) k) (not (contains S k m))
          (rw (cmp-eq S.total (q ∙ sym p))))
      go d (greater_view p) = rw (contains-insert S k e m, not-or)
          (at-3 (clears S l k) (clears (opposite S) (at d w) k) (not (contains S k m)) (differs e (some k)))

  step-some : (l u : Bound Val) (e : Val) (m : List Val) (b : Bool) (k : K) →
      within (resolve_by S (classify_at S l u e) e (range l u m b)) (some k) ≡
      (within (range l u m b) (some k) && differs e (some k))
  step-some absent u e m b k = step-up absent u e m b k
  step-some (at c w) u e m b k = go c (S.total.view (S.key e) (S.key w))
    where
      go : (c : Bool) {o : Ordering} → View S.order.less (S.key e) (S.key w) o →
          within (resolve_by S (classify_by o c TightenLower (classify_upper S u e)) e (range (at c w) u m b)) (some k) ≡
          (within (range (at c w) u m b) (some k) && differs e (some k))
      go c (less_view p) = sym (except k (S.key e) (within (range (at c w) u m b) (some k)) λ q. gone_l
          (clears S (at c w) k) (clears (opposite S) u k && not (contains S k m))
          (rw (cmp-gt S.total (subst (λ y. S.order.less y (S.key w)) (sym q) p))))
      go true (equal_view p) = rw (S.opened-key w e, opened-low k (S.key e) (S.key w) p)
          (at_1 (above true (S.order.cmp (S.key w) k)) (differs e (some k)) (clears (opposite S) u k)
          (not (contains S k m)))
      go false (equal_view p) = sym (except k (S.key e) (within (range (at false w) u m b) (some k)) λ q. gone_l
          (clears S (at false w) k) (clears (opposite S) u k && not (contains S k m))
          (rw (cmp-eq S.total (sym p ∙ sym q))))
      go c (greater_view p) = step-up (at c w) u e m b k

  step-within : (r : Range Val) (e : Val) (x : Option K) →
      within (resolve_by S (classify_at S r.lower r.upper e) e r) x ≡ (within r x && differs e x)
  step-within r e none = step-none r.lower r.upper e r.kept r.crossed ∙ sym (and-false (within r none))
  step-within r e (some k) = step-some r.lower r.upper e r.kept r.crossed k

  -- a range that is found empty
  cross_none : (l u : Bound Val) (m : List Val) (b : Bool) (x : Option K) → crosses S l u ≡ true →
      within (range l u m b) x ≡ false
  cross_none l u m b (some k) h = sym (and_assoc (clears S l k) (clears (opposite S) u k) (not (contains S k m))) ∙
      gone_l (clears S l k && clears (opposite S) u k) (not (contains S k m)) (crossing_clears_nothing S l u k h)
  cross_none absent u m b none h = absurd (true≢false (sym h))
  cross_none (at c v) u m b none h = refl

  step-bad : (f : ExcludedResolution) (r : Range Val) (e : Val) (x : Option K) → (resolve_by S f e r).crossed ≡ true →
      within (resolve_by S f e r) x ≡ false
  step-bad Drop r e x h = cross_none r.lower r.upper r.kept (crosses S r.lower r.upper) x h
  step-bad Keep r e x h = cross_none r.lower r.upper (insert S e r.kept) (crosses S r.lower r.upper) x
      h
  step-bad TightenLower r e x h = cross_none (open_at S r.lower e) r.upper r.kept
      (crosses S (open_at S r.lower e) r.upper) x h
  step-bad TightenUpper r e x h = cross_none r.lower (open_at S r.upper e) r.kept
      (crosses S r.lower (open_at S r.upper e)) x h

  abbrev pub ranged : Range Val → Option K → Bool
  ranged r x = not r.crossed && within r x

  abbrev pub differ_all : List Val → Option K → Bool
  differ_all [] x = true
  differ_all (e ∷ l) x = differs e x && differ_all l x

  dead_not : (b c : Bool) → (b ≡ true → c ≡ false) → (not b && c) ≡ c
  dead_not true c h = sym (h refl)
  dead_not false c h = refl

  step-ranged : (r : Range Val) (e : Val) (x : Option K) → ranged (resolve_if S r.crossed e r) x ≡
      (ranged r x && differs e x)
  step-ranged r e x = go r.crossed refl
    where
      go : (b : Bool) → r.crossed ≡ b → ranged (resolve_if S b e r) x ≡ ((not b && within r x) && differs e x)
      go true h = ap (λ b. not b && within r x) h
      go false h = dead_not (resolve_by S (classify_at S r.lower r.upper e) e r).crossed
          (within (resolve_by S (classify_at S r.lower r.upper e) e r) x)
          (step-bad (classify_at S r.lower r.upper e) r e x) ∙ step-within r e x

  pub resolve_excluded-is_exact : (l : List Val) (r : Range Val) (x : Option K) → ranged (resolve_excluded S l r) x ≡
      (ranged r x && differ_all l x)
  resolve_excluded-is_exact [] r x = sym (and-true (ranged r x))
  resolve_excluded-is_exact (e ∷ l) r x =
      rw (resolve_excluded-is_exact l (resolve_if S r.crossed e r) x, step-ranged r e x)
      (and_assoc (ranged r x) (differs e x) (differ_all l x))

  differ-none : (l : List Val) → differ_all l none ≡ is_empty l
  differ-none [] = refl
  differ-none (v ∷ l) = refl

  differ-some : (l : List Val) (k : K) → differ_all l (some k) ≡ not (contains S k l)
  differ-some [] k = refl
  differ-some (v ∷ l) k = rw (differ-some l k) (sym (not-or (is_equal (S.order.cmp k (S.key v))) (contains S k l)))

  range_emitted : (q : ColumnConstraints Val) (x : Option K) → (within (range_of q) x && differ_all q.excluded x) ≡
      admits_emitted S q x
  range_emitted q none = rw (differ-none q.excluded, and-true, and_assoc)
  range_emitted q (some k) = rw (differ-some q.excluded k, and-true, and_assoc)

  with_excluded-emitted : (q : ColumnConstraints Val) (x : Option K) → admits_emitted S (with_excluded S q) x ≡
      within (resolve_excluded S q.excluded (range_of q)) x
  with_excluded-emitted q none = refl
  with_excluded-emitted q (some k) = refl

  with_excluded-recorded : (q : ColumnConstraints Val) (x : Option K) → admits_recorded S (with_excluded S q) x ≡
      admits_recorded S q x
  with_excluded-recorded q none = refl
  with_excluded-recorded q (some k) = refl

  nc_none : (s a h n : Bool) → not (s && (a && h)) ≡ true → (s && (a && (h && n))) ≡ false
  nc_none true true true n e = absurd (true≢false (sym e))
  nc_none true true false n e = refl
  nc_none true false h n e = refl
  nc_none false a h n e = refl

  gone_last : (s a d n : Bool) → n ≡ false → (s && (a && (d && n))) ≡ false
  gone_last s a d n h = simp (h, and-false)

  null_conflict-admits_nothing : (q : ColumnConstraints Val) (x : Option K) → null_conflict q ≡ true →
      (admits_emitted S q x && admits_recorded S q x) ≡ false
  null_conflict-admits_nothing q x h = go q.nullability refl h x
    where
      go : (n : Nullability) → q.nullability ≡ n →
          (is_null_required n && not (admits_emitted S q none && (is_none q.allowed && not q.strict))) ≡ true →
          (x : Option K) → (admits_emitted S q x && admits_recorded S q x) ≡ false
      go Unconstrained e h x = absurd (true≢false (sym h))
      go NonNull e h x = absurd (true≢false (sym h))
      go Null e h none = nc_none (admits_emitted S q none) (is_none q.allowed) (not q.strict)
          (null_fits q.nullability) h
      go Null e h (some k) = gone_last (admits_emitted S q (some k)) (is_allowed S q.allowed k)
          (not (contains S k q.disallowed)) (value_fits q.nullability) (ap value_fits e)

  three : (u n b s m : Bool) → (n ≡ true → ((not b && s) && m) ≡ false) → (not (u || (n || b)) && (s && m)) ≡
      (not u && ((not b && s) && m))
  three true n b s m h = refl
  three false true b s m h = sym (h refl)
  three false false true s m h = refl
  three false false false s m h = refl

  pub with_excluded-ranged : (q : ColumnConstraints Val) (x : Option K) →
      ranged (resolve_excluded S q.excluded (range_of q)) x ≡ admits_emitted S q x
  with_excluded-ranged q x = resolve_excluded-is_exact q.excluded (range_of q) x ∙ range_emitted q x

  pub with_excluded-is_exact : (q : ColumnConstraints Val) (x : Option K) → admits S (with_excluded S q) x ≡
      admits S q x
  with_excluded-is_exact q x =
      let r = resolve_excluded S q.excluded (range_of q) in
      rw (with_excluded-emitted q x, with_excluded-recorded q x)
      (three q.unsat (null_conflict q) r.crossed (within r x) (admits_recorded S q x)
      (λ h. ap (λ s. s && admits_recorded S q x) (with_excluded-ranged q x) ∙ null_conflict-admits_nothing q x h) ∙
      ap (λ s. not q.unsat && (s && admits_recorded S q x)) (with_excluded-ranged q x))

  -- ---- the last two tests
  infeasible : (q : ColumnConstraints Val) (l : List Val) (k : K) → any_feasible S q l ≡ false → contains S k l ≡
      true → is_feasible S q k ≡ false
  infeasible q [] k h e = absurd (true≢false (sym e))
  infeasible q (v ∷ l) k h e = go (S.total.view k (S.key v))
      (or_no (is_feasible S q (S.key v)) (any_feasible S q l) h) e (infeasible q l k)
    where
      go : {o : Ordering} → View S.order.less k (S.key v) o → (is_feasible S q (S.key v) ≡ false) ×
          (any_feasible S q l ≡ false) → (is_equal o || contains S k l) ≡ true →
          (any_feasible S q l ≡ false → contains S k l ≡ true → is_feasible S q k ≡ false) → is_feasible S q k ≡ false
      go (less_view p) h e ih = ih h.1 e
      go (equal_view p) h e ih = subst (λ j. is_feasible S q j ≡ false) (sym p) h.0
      go (greater_view p) h e ih = ih h.1 e

  -- what a column takes is feasible
  pub admits_feasible : (q : ColumnConstraints Val) (k : K) →
      (admits_emitted S q (some k) && admits_recorded S q (some k)) ≡ (is_feasible S q k && value_fits q.nullability)
  admits_feasible q k = re (admits_emitted S q (some k)) (is_allowed S q.allowed k)
      (not (contains S k q.disallowed)) (value_fits q.nullability)
    where
      re : (s a d n : Bool) → (s && (a && (d && n))) ≡ ((s && (a && d)) && n)
      re true true d n = refl
      re true false d n = refl
      re false a d n = refl

  none-feasible_admits_nothing : (q : ColumnConstraints Val) (x : Option K) → allowed_feasible S q q.allowed ≡
      false → (admits_emitted S q x && admits_recorded S q x) ≡ false
  none-feasible_admits_nothing q x h = go q.allowed refl h x
    where
      val : (k : K) (l : List Val) → q.allowed ≡ some l → any_feasible S q l ≡ false → (b : Bool) → contains S k l ≡
          b → (admits_emitted S q (some k) && admits_recorded S q (some k)) ≡ false
      val k l e h true m = admits_feasible q k ∙ gone_l (is_feasible S q k) (value_fits q.nullability)
          (infeasible q l k h m)
      val k l e h false m = gone_m (admits_emitted S q (some k)) (is_allowed S q.allowed k)
          (not (contains S k q.disallowed) && value_fits q.nullability) (ap (λ o. is_allowed S o k) e ∙ m)

      go : (o : Option (List Val)) → q.allowed ≡ o → allowed_feasible S q o ≡ false → (x : Option K) →
          (admits_emitted S q x && admits_recorded S q x) ≡ false
      go none e h x = absurd (true≢false h)
      go (some l) e h none = gone_m (admits_emitted S q none) (is_none q.allowed)
          (not q.strict && null_fits q.nullability) (ap is_none e)
      go (some l) e h (some k) = val k l e h (contains S k l) refl

  -- a pinned range lets one key through
  pub fixed_at_lem : (l u : Bound Val) (v : Val) → fixed_at S l u ≡ some v → (k : K) →
      ((clears S l k && clears (opposite S) u k) ≡ false) ⊎ (k ≡ S.key v)
  fixed_at_lem absent u v e k = absurd (none-ne-some v e)
  fixed_at_lem (at false w) u v e k = absurd (none-ne-some v e)
  fixed_at_lem (at true w) absent v e k = absurd (none-ne-some v e)
  fixed_at_lem (at true w) (at false z) v e k = absurd (none-ne-some v e)
  fixed_at_lem (at true w) (at true z) v e k = go (S.total.view (S.key w) (S.key z)) (S.total.view (S.key w) k) e
    where
      go : {o p : Ordering} → View S.order.less (S.key w) (S.key z) o → View S.order.less (S.key w) k p →
          cond (is_equal o) (some w) none ≡ some v → ((above true p && above true (S.order.cmp k (S.key z))) ≡
          false) ⊎ (k ≡ S.key v)
      go (less_view a) b e = absurd (none-ne-some v e)
      go (greater_view a) b e = absurd (none-ne-some v e)
      go (equal_view a) (less_view b) e = inl (rw (cmp-gt S.total (subst (λ y. S.order.less y k) a b)))
      go (equal_view a) (equal_view b) e = inr (sym b ∙ ap S.key (some-injective w v e))
      go (equal_view a) (greater_view b) e = inl refl

  pub fixed_lower : (l u : Bound Val) (v : Val) → fixed_at S l u ≡ some v → is_absent l ≡ false
  fixed_lower absent u v e = absurd (none-ne-some v e)
  fixed_lower (at c w) u v e = refl

  fixed_disallowed-admits_nothing : (q : ColumnConstraints Val) (x : Option K) →
      fixed_disallowed S q (fixed_at S q.lower q.upper) ≡ true → (admits_emitted S q x && admits_recorded S q x) ≡
      false
  fixed_disallowed-admits_nothing q x h = go (fixed_at S q.lower q.upper) refl h x
    where
      val : (v : Val) (k : K) → contains S (S.key v) q.disallowed ≡ true →
          ((clears S q.lower k && clears (opposite S) q.upper k) ≡ false) ⊎ (k ≡ S.key v) →
          (admits_emitted S q (some k) && admits_recorded S q (some k)) ≡ false
      val v k m (inl z) = gone (clears S q.lower k) (clears (opposite S) q.upper k)
          (not (contains S k q.excluded)) (admits_recorded S q (some k)) z
      val v k m (inr p) = hid (admits_emitted S q (some k)) (is_allowed S q.allowed k) (contains S k q.disallowed)
          (value_fits q.nullability) (subst (λ j. contains S j q.disallowed ≡ true) (sym p) m)
        where
          hid : (s a d n : Bool) → d ≡ true → (s && (a && (not d && n))) ≡ false
          hid s a d n e = simp (e, and-false)

      go : (o : Option Val) → fixed_at S q.lower q.upper ≡ o → fixed_disallowed S q o ≡ true → (x : Option K) →
          (admits_emitted S q x && admits_recorded S q x) ≡ false
      go none e h x = absurd (true≢false (sym h))
      go (some v) e h none = gone_l (admits_emitted S q none) (admits_recorded S q none)
          (gone_l (is_absent q.lower) (is_absent q.upper && is_empty q.excluded)
          (fixed_lower q.lower q.upper v e))
      go (some v) e h (some k) = val v k h (fixed_at_lem q.lower q.upper v e k)

  two : (u a p t : Bool) → (a ≡ false → t ≡ false) → (p ≡ true → t ≡ false) → (not (u || (not a || p)) && t) ≡
      (not u && t)
  two true a p t h g = refl
  two false true true t h g = sym (g refl)
  two false true false t h g = refl
  two false false p t h g = sym (h refl)

  with_lists-same : (q : ColumnConstraints Val) (x : Option K) →
      (admits_emitted S (with_lists S q) x && admits_recorded S (with_lists S q) x) ≡
      (admits_emitted S q x && admits_recorded S q x)
  with_lists-same q none = refl
  with_lists-same q (some k) = refl

  pub with_lists-is_exact : (q : ColumnConstraints Val) (x : Option K) → admits S (with_lists S q) x ≡ admits S q x
  with_lists-is_exact q x = rw (with_lists-same q x)
      (two q.unsat (allowed_feasible S q q.allowed) (fixed_disallowed S q (fixed_at S q.lower q.upper))
      (admits_emitted S q x && admits_recorded S q x) (none-feasible_admits_nothing q x)
      (fixed_disallowed-admits_nothing q x))

  pub resolve_is_exact : (q : ColumnConstraints Val) (x : Option K) → admits S (resolve_deferred S q) x ≡ admits S q x
  resolve_is_exact q x = with_lists-is_exact (with_excluded S q) x ∙ with_excluded-is_exact q x
