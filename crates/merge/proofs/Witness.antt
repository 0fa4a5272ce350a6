-- A value for each column that is not impossible: half way between the values that screens can name.
use mathlib.Core.Path.{◌≡◌, refl, sym, ◌∙◌, ap, subst, fun_ext}
use mathlib.Core.Bool.{Bool, true, false, not, ◌&&◌, ◌||◌, true≢false, or-true, cond}
use mathlib.Core.List.{List, [], ◌∷◌}
use mathlib.Core.Option.{Option, none, some}
use mathlib.Core.Logic.{◌⊎◌, inl, inr}
use Rattle.truth.proofs.Orders.{cmp-eq, cmp-lt, cmp-refl, opp-total}
use Rattle.truth.specs.Order.{View, above, equal_view, greater_view, less_view, is_equal, opp}
use Rattle.std.specs.declared.cmp.Ordering.{Ordering}
use Rattle.std.specs.declared.cmp.Ordering.TheVariants.{Equal, Greater, Less}
use Rattle.constraints.proofs.Bounds.{SameBound, same-clears, same-of_still}
use Rattle.constraints.proofs.Columns.{admits, admits_emitted, admits_recorded, null_fits, value_fits}
use Rattle.constraints.proofs.Merges.{Implies, Quiet, not-no, or_no}
use Rattle.constraints.proofs.Resolved.{Consistent, fixed_excludes_nothing, resolve_consistent, resolve_emitted}
use Rattle.constraints.proofs.Resolves.{admits_feasible, range_of}
use Rattle.constraints.specs.Bound.{Bound, absent, at, clears, crosses, crosses_by}
use Rattle.constraints.specs.Column.{ColumnConstraints, allowed_changes, allowed_of, is_none, is_null_required}
use Rattle.constraints.specs.Resolve.{allowed_feasible, any_feasible}
use Rattle.constraints.specs.Resolve.{fixed_at, fixed_disallowed, is_allowed, is_feasible}
use Rattle.constraints.specs.Resolve.{null_conflict, resolve_deferred, resolve_excluded}
use Rattle.constraints.specs.Resolve.{with_excluded, with_lists}
use Rattle.constraints.specs.Scalars.{Scalars, opposite}
use Rattle.merge.proofs.BoundKeys.{bound_key, resolve_excluded-keys, same_key, sub_same}
use Rattle.constraints.specs.Values.{contains, subset}
use Rattle.constraints.specs.declared.column.Nullability.{Nullability}
use Rattle.constraints.specs.declared.column.Nullability.TheVariants.{NonNull, Null, Unconstrained}

-- points that no value of a screen names
pub record HalfPoints {K Val : Type 0} (S : Scalars K Val) : Type 0 where
  pub hi : K → K
  pub lo : K → K
  pub nil : K
  pub hi_above : (v : Val) → S.order.less (S.key v) (hi (S.key v))
  pub hi_below : (v w : Val) → S.order.less (S.key v) (S.key w) → S.order.less (hi (S.key v)) (S.key w)
  pub lo_below : (v : Val) → S.order.less (lo (S.key v)) (S.key v)
  pub hi_off : (v w : Val) → hi (S.key v) ≡ S.key w → ⊥
  pub lo_off : (v w : Val) → lo (S.key v) ≡ S.key w → ⊥
  pub nil_off : (w : Val) → nil ≡ S.key w → ⊥

module _ {K Val : Type 0} (S : Scalars K Val) (H : HalfPoints S) where
  abbrev pub point_by : Ordering → K → K
  point_by Less k = H.hi k
  point_by Equal k = k
  point_by Greater k = H.hi k

  abbrev pub point : Option K → Option K → K
  point none none = H.nil
  point none (some j) = H.lo j
  point (some k) none = H.hi k
  point (some k) (some j) = point_by (S.order.cmp k j) k

  abbrev pub lesser_by : Ordering → K → K → K
  lesser_by Less k j = k
  lesser_by Equal k j = k
  lesser_by Greater k j = j

  abbrev pub lesser : Bool → K → Option K → Option K
  lesser false k o = o
  lesser true k none = some k
  lesser true k (some j) = some (lesser_by (S.order.cmp k j) k j)

  -- the least key of a list that passes a test
  abbrev pub least : (K → Bool) → List Val → Option K
  least F [] = none
  least F (v ∷ l) = lesser (F (S.key v)) (S.key v) (least F l)

  abbrev pub or_else : Option K → K → K
  or_else none k = k
  or_else (some j) k = j

  abbrev pub witness_by : Option (List Val) → ColumnConstraints Val → K
  witness_by none q = point (bound_key S q.lower) (bound_key S q.upper)
  witness_by (some l) q = or_else (least (is_feasible S q) l) H.nil

  abbrev pub witness : ColumnConstraints Val → K
  witness q = witness_by q.allowed q

  off : (k : K) → ((w : Val) → k ≡ S.key w → ⊥) → (l : List Val) → contains S k l ≡ false
  off k h [] = refl
  off k h (w ∷ l) = go (S.total.view k (S.key w)) (off k h l)
    where
      go : {o : Ordering} → View S.order.less k (S.key w) o → contains S k l ≡ false →
          (is_equal o || contains S k l) ≡ false
      go (less_view p) ih = ih
      go (equal_view p) ih = absurd (h w p)
      go (greater_view p) ih = ih

  point_fits : (l u : Bound Val) → crosses S l u ≡ false →
      (clears S l (point (bound_key S l) (bound_key S u)) && clears (opposite S) u (point (bound_key S l) (bound_key S u))) ≡ true
  point_fits absent absent h = refl
  point_fits absent (at d w) h = rw (cmp-lt S.total (H.lo_below w))
  point_fits (at c v) absent h = rw (cmp-lt S.total (H.hi_above v))
  point_fits (at c v) (at d w) h = go (S.total.view (S.key v) (S.key w)) h
    where
      both : (c d : Bool) → not (c && d) ≡ false → (c && d) ≡ true
      both true true e = refl
      both true false e = sym e
      both false d e = sym e

      go : {o : Ordering} → View S.order.less (S.key v) (S.key w) o → crosses_by o c d ≡ false →
          (above c (S.order.cmp (S.key v) (point_by o (S.key v))) && above d
          (S.order.cmp (point_by o (S.key v)) (S.key w))) ≡ true
      go (less_view p) e = rw (cmp-lt S.total (H.hi_above v), cmp-lt S.total (H.hi_below v w p))
      go (equal_view p) e = rw (cmp-refl S.total (S.key v), cmp-eq S.total p) (both c d e)
      go (greater_view p) e = absurd (true≢false e)

  -- the point is the pinned value, or no value of a screen
  point_off : (l u : Bound Val) → crosses S l u ≡ false →
      ((v : Val) × (fixed_at S l u ≡ some v) × (point (bound_key S l) (bound_key S u) ≡ S.key v)) ⊎
      ((w : Val) → point (bound_key S l) (bound_key S u) ≡ S.key w → ⊥)
  point_off absent absent h = inr H.nil_off
  point_off absent (at d w) h = inr (H.lo_off w)
  point_off (at c v) absent h = inr (H.hi_off v)
  point_off (at c v) (at d w) h = go c d (S.total.view (S.key v) (S.key w)) h
    where
      go : (c d : Bool) {o : Ordering} → View S.order.less (S.key v) (S.key w) o → crosses_by o c d ≡ false →
          ((y : Val) × (fixed_at S (at c v) (at d w) ≡ some y) × (point_by o (S.key v) ≡ S.key y)) ⊎
          ((y : Val) → point_by o (S.key v) ≡ S.key y → ⊥)
      go c d (less_view p) e = inr (H.hi_off v)
      go c d (greater_view p) e = absurd (true≢false e)
      go true true (equal_view p) e = inl (v, ap (λ o. cond (is_equal o) (some v) none) (cmp-eq S.total p), refl)
      go true false (equal_view p) e = absurd (true≢false e)
      go false d (equal_view p) e = absurd (true≢false e)

  -- ---- the least
  abbrev Least : (K → Bool) → List Val → Option K → Type 0
  Least F l none = (k : K) → contains S k l ≡ true → F k ≡ false
  Least F l (some j) = (F j ≡ true) × (contains S j l ≡ true) × ((k : K) → contains S k l ≡ true → F k ≡ true →
      S.order.less k j → ⊥)

  cons_mem : (k : K) (v : Val) (l : List Val) → contains S k (v ∷ l) ≡ true → (k ≡ S.key v) ⊎ (contains S k l ≡ true)
  cons_mem k v l = go (S.total.view k (S.key v))
    where
      go : {o : Ordering} → View S.order.less k (S.key v) o → (is_equal o || contains S k l) ≡ true →
          (k ≡ S.key v) ⊎ (contains S k l ≡ true)
      go (less_view p) h = inr h
      go (equal_view p) h = inl p
      go (greater_view p) h = inr h

  tail_mem : (k : K) (v : Val) (l : List Val) → contains S k l ≡ true → contains S k (v ∷ l) ≡ true
  tail_mem k v l h = ap (λ b. is_equal (S.order.cmp k (S.key v)) || b) h ∙
      or-true (is_equal (S.order.cmp k (S.key v)))

  self_mem : (v : Val) (l : List Val) → contains S (S.key v) (v ∷ l) ≡ true
  self_mem v l = ap (λ o. is_equal o || contains S (S.key v) l) (cmp-refl S.total (S.key v))

  by-mem : (k : K) (v : Val) (l : List Val) (A : Type 0) → contains S k (v ∷ l) ≡ true → (k ≡ S.key v → A) →
      (contains S k l ≡ true → A) → A
  by-mem k v l A h f g = go (cons_mem k v l h)
    where
      go : (k ≡ S.key v) ⊎ (contains S k l ≡ true) → A
      go (inl e) = f e
      go (inr m) = g m

  lesser_is : (F : K → Bool) (v : Val) (l : List Val) (b : Bool) → F (S.key v) ≡ b → (o : Option K) → Least F l o →
      Least F (v ∷ l) (lesser b (S.key v) o)
  lesser_is F v l false e none h = λ k m. by-mem k v l (F k ≡ false) m (λ p. ap F p ∙ e) (h k)
  lesser_is F v l false e (some j) h = (
    h.0,
    tail_mem j v l h.1,
    λ k m f c. by-mem k v l ⊥ m (λ p. true≢false (sym f ∙ ap F p ∙ e))
        (λ m. h.2 k m f c),
  )
  lesser_is F v l true e none h = (
    e,
    self_mem v l,
    λ k m f c. by-mem k v l ⊥ m
        (λ p. S.total.irrefl (subst (λ x. S.order.less x (S.key v)) p c)) (λ m. true≢false (sym f ∙ h k m)),
  )
  lesser_is F v l true e (some j) h = go (S.total.view (S.key v) j)
    where
      go : {o : Ordering} → View S.order.less (S.key v) j o → Least F (v ∷ l) (some (lesser_by o (S.key v) j))
      go (less_view p) = (
        e,
        self_mem v l,
        λ k m f c. by-mem k v l ⊥ m
            (λ q. S.total.irrefl (subst (λ x. S.order.less x (S.key v)) q c))
            (λ m. h.2 k m f (S.total.trans c p)),
      )
      go (equal_view p) = (
        e,
        self_mem v l,
        λ k m f c. by-mem k v l ⊥ m
            (λ q. S.total.irrefl (subst (λ x. S.order.less x (S.key v)) q c))
            (λ m. h.2 k m f (subst (S.order.less k) p c)),
      )
      go (greater_view p) = (
        h.0,
        tail_mem j v l h.1,
        λ k m f c. by-mem k v l ⊥ m
            (λ q. S.total.irrefl (S.total.trans p (subst (λ x. S.order.less x j) q c))) (λ m. h.2 k m f c),
      )

  least-is : (F : K → Bool) (l : List Val) → Least F l (least F l)
  least-is F [] = λ k m. absurd (true≢false (sym m))
  least-is F (v ∷ l) = lesser_is F v l (F (S.key v)) refl (least F l) (least-is F l)

  -- lists of the same keys have the same least key
  least-same : (F : K → Bool) (l m : List Val) → ((k : K) → contains S k l ≡ contains S k m) → least F l ≡ least F m
  least-same F l m e = go (least F l) (least F m) (least-is F l) (least-is F m)
    where
      two : {o : Ordering} (i j : K) → View S.order.less i j o → Least F l (some i) → Least F m (some j) →
          some i ≡ some j
      two i j (less_view p) a b = absurd (b.2 i (sym (e i) ∙ a.1) a.0 p)
      two i j (equal_view p) a b = ap some p
      two i j (greater_view p) a b = absurd (a.2 j (e j ∙ b.1) b.0 p)

      go : (o p : Option K) → Least F l o → Least F m p → o ≡ p
      go none none a b = refl
      go none (some j) a b = absurd (true≢false (sym b.0 ∙ a j (e j ∙ b.1)))
      go (some i) none a b = absurd (true≢false (sym a.0 ∙ b i (sym (e i) ∙ a.1)))
      go (some i) (some j) a b = two i j (S.total.view i j) a b

  any-least : (q : ColumnConstraints Val) (l : List Val) → any_feasible S q l ≡ true →
      is_feasible S q (or_else (least (is_feasible S q) l) H.nil) ≡ true
  any-least q l h = go (least (is_feasible S q) l) (least-is (is_feasible S q) l)
    where
      none_any : (l : List Val) → ((k : K) → contains S k l ≡ true → is_feasible S q k ≡ false) → any_feasible S q l ≡
          false
      none_any [] g = refl
      none_any (v ∷ l) g = ap (λ b. b || any_feasible S q l) (g (S.key v) (self_mem v l)) ∙
          none_any l (λ k m. g k (tail_mem k v l m))

      go : (o : Option K) → Least (is_feasible S q) l o → is_feasible S q (or_else o H.nil) ≡ true
      go none a = absurd (true≢false (sym h ∙ none_any l a))
      go (some j) a = a.0

  -- ---- a column that is not impossible takes its point
  and_all : (a b c : Bool) → (a && b) ≡ true → c ≡ true → (a && (b && c)) ≡ true
  and_all true true c h e = e
  and_all true false c h e = h
  and_all false b c h e = h

  point_feasible : (q : ColumnConstraints Val) → q.allowed ≡ none → crosses S q.lower q.upper ≡ false →
      ((v : Val) → fixed_at S q.lower q.upper ≡ some v → q.excluded ≡ []) →
      fixed_disallowed S q (fixed_at S q.lower q.upper) ≡ false →
      is_feasible S q (point (bound_key S q.lower) (bound_key S q.upper)) ≡ true
  point_feasible q a c p b = go (point_off q.lower q.upper c)
    where
      k : K
      k = point (bound_key S q.lower) (bound_key S q.upper)

      fits : contains S k q.excluded ≡ false → contains S k q.disallowed ≡ false → is_feasible S q k ≡ true
      fits e d = ap (λ s. s && (is_allowed S q.allowed k && not (contains S k q.disallowed)))
          (and_all (clears S q.lower k) (clears (opposite S) q.upper k) (not (contains S k q.excluded))
          (point_fits q.lower q.upper c) (ap not e)) ∙
          ap (λ o. is_allowed S o k && not (contains S k q.disallowed)) a ∙ ap not d

      go : ((v : Val) × (fixed_at S q.lower q.upper ≡ some v) × (k ≡ S.key v)) ⊎ ((w : Val) → k ≡ S.key w → ⊥)
          → is_feasible S q k ≡ true
      go (inl r) = fits (ap (contains S k) (p r.0 r.1))
          (subst (λ x. contains S x q.disallowed ≡ false) (sym r.2) (sym (ap (fixed_disallowed S q) r.1) ∙ b))
      go (inr h) = fits (off k h q.excluded) (off k h q.disallowed)

  fixed_same : (q : ColumnConstraints Val) (o : Option Val) → fixed_disallowed S (with_lists S q) o ≡
      fixed_disallowed S q o
  fixed_same q none = refl
  fixed_same q (some v) = refl

  any_same : (q : ColumnConstraints Val) (l : List Val) → any_feasible S (with_lists S q) l ≡ any_feasible S q l
  any_same q [] = refl
  any_same q (v ∷ l) = ap (λ b. is_feasible S q (S.key v) || b) (any_same q l)

  pub witness_feasible : (q : ColumnConstraints Val) → Consistent S q → (resolve_deferred S q).unsat ≡ false →
      is_feasible S (resolve_deferred S q) (witness (resolve_deferred S q)) ≡ true
  witness_feasible q c h = go q.allowed refl (not-no (allowed_feasible S (with_excluded S q) q.allowed) n.0)
    where
      n : (not (allowed_feasible S (with_excluded S q) q.allowed) ≡ false) ×
          (fixed_disallowed S (with_excluded S q) (fixed_at S (with_excluded S q).lower (with_excluded S q).upper) ≡
          false)
      n = or_no (not (allowed_feasible S (with_excluded S q) q.allowed))
          (fixed_disallowed S (with_excluded S q) (fixed_at S (with_excluded S q).lower (with_excluded S q).upper))
          (or_no (with_excluded S q).unsat (not (allowed_feasible S (with_excluded S q) q.allowed) || fixed_disallowed
          S (with_excluded S q) (fixed_at S (with_excluded S q).lower (with_excluded S q).upper)) h).1

      go : (o : Option (List Val)) → q.allowed ≡ o → allowed_feasible S (with_excluded S q) o ≡ true →
          is_feasible S (resolve_deferred S q) (witness_by o (resolve_deferred S q)) ≡ true
      go none e a = point_feasible (resolve_deferred S q) e (resolve_consistent S q c h) (fixed_excludes_nothing S q)
          (fixed_same (with_excluded S q) (fixed_at S (with_excluded S q).lower (with_excluded S q).upper) ∙ n.1)
      go (some l) e a = any-least (resolve_deferred S q) l (any_same (with_excluded S q) l ∙ a)

  -- ---- a row's value for a column
  abbrev pub value_by : Nullability → K → Option K
  value_by Unconstrained k = some k
  value_by Null k = none
  value_by NonNull k = some k

  abbrev pub row_value : ColumnConstraints Val → Option K
  row_value q = value_by q.nullability (witness q)

  pub row_value-admitted : (q : ColumnConstraints Val) → Consistent S q → (resolve_deferred S q).unsat ≡ false →
      admits S (resolve_deferred S q) (row_value (resolve_deferred S q)) ≡ true
  row_value-admitted q c h = ap (λ b. not b && (admits_emitted S r (row_value r) && admits_recorded S r (row_value r))) h ∙
      go q.nullability refl
    where
      r : ColumnConstraints Val
      r = resolve_deferred S q

      some_case : value_fits q.nullability ≡ true →
          (admits_emitted S r (some (witness r)) && admits_recorded S r (some (witness r))) ≡ true
      some_case e = admits_feasible S r (witness r) ∙ ap (λ b. b && value_fits q.nullability)
          (witness_feasible q c h) ∙ e

      null_case : q.nullability ≡ Null → (admits_emitted S r none && admits_recorded S r none) ≡ true
      null_case e = ap (λ b. b && admits_recorded S r none) (resolve_emitted S q none h) ∙
          fin (admits_emitted S q none) (is_none q.allowed) (not q.strict) (null_fits q.nullability)
          (not-no (admits_emitted S q none && (is_none q.allowed && not q.strict))
          (sym (ap (λ n. is_null_required n && not (admits_emitted S q none && (is_none q.allowed && not q.strict)))
          e) ∙ clear)) (ap null_fits e)
        where
          clear : null_conflict q ≡ false
          clear = (or_no (null_conflict q) (resolve_excluded S q.excluded (range_of q)).crossed
              (or_no q.unsat (null_conflict q || (resolve_excluded S q.excluded (range_of q)).crossed)
              (or_no (with_excluded S q).unsat
              (not (allowed_feasible S (with_excluded S q) q.allowed) || fixed_disallowed S (with_excluded S q)
              (fixed_at S (with_excluded S q).lower (with_excluded S q).upper)) h).0).1).0

          fin : (s a h n : Bool) → (s && (a && h)) ≡ true → n ≡ true → (s && (a && (h && n))) ≡ true
          fin true true true n e g = g
          fin true true false n e g = e
          fin true false h n e g = e
          fin false a h n e g = e

      go : (n : Nullability) → q.nullability ≡ n →
          (admits_emitted S r (value_by n (witness r)) && admits_recorded S r (value_by n (witness r))) ≡ true
      go Unconstrained e = some_case (ap value_fits e)
      go NonNull e = some_case (ap value_fits e)
      go Null e = null_case e

  -- ---- columns that have all that the other says take the same point
  abbrev Alike : Option (List Val) → Option (List Val) → Type 0
  Alike none none = Unit {0}
  Alike none (some m) = ⊥
  Alike (some l) none = ⊥
  Alike (some l) (some m) = (k : K) → contains S k l ≡ contains S k m

  alike : (q r : ColumnConstraints Val) (o p : Option (List Val)) → q.allowed ≡ o → r.allowed ≡ p →
      Quiet S (allowed_of p) q → Quiet S (allowed_of o) r → Alike o p
  alike q r none none a b h g = tt
  alike q r none (some m) a b h g = true≢false (sym (ap (λ o. allowed_changes S o m) a) ∙ h.0)
  alike q r (some l) none a b h g = true≢false (sym (ap (λ o. allowed_changes S o l) b) ∙ g.0)
  alike q r (some l) (some m) a b h g =
      sub_same S l m (not-no (subset S l m) (sym (ap (λ o. allowed_changes S o m) a) ∙ h.0))
      (not-no (subset S m l) (sym (ap (λ o. allowed_changes S o l) b) ∙ g.0))

  alike-in : (o p : Option (List Val)) → Alike o p → (k : K) → is_allowed S o k ≡ is_allowed S p k
  alike-in none none h k = refl
  alike-in none (some m) h k = absurd h
  alike-in (some l) none h k = absurd h
  alike-in (some l) (some m) h k = h k

  alike-witness : (o p : Option (List Val)) → Alike o p → (q r : ColumnConstraints Val) →
      point (bound_key S q.lower) (bound_key S q.upper) ≡ point (bound_key S r.lower) (bound_key S r.upper) →
      is_feasible S q ≡ is_feasible S r → witness_by o q ≡ witness_by p r
  alike-witness none none h q r e f = e
  alike-witness none (some m) h q r e f = absurd h
  alike-witness (some l) none h q r e f = absurd h
  alike-witness (some l) (some m) h q r e f = ap (λ F. or_else (least F l) H.nil) f ∙
      ap (λ o. or_else o H.nil) (least-same (is_feasible S r) l m h)

  pub witness_same : (q r : ColumnConstraints Val) → Implies S q r → Implies S r q → (resolve_deferred S q).unsat ≡
      false → (resolve_deferred S r).unsat ≡ false → witness (resolve_deferred S q) ≡ witness (resolve_deferred S r)
  witness_same q r h g a b = alike-witness q.allowed r.allowed al (resolve_deferred S q) (resolve_deferred S r)
      spots (fun_ext feas)
    where
      al : Alike q.allowed r.allowed
      al = alike q r q.allowed r.allowed refl refl h.al g.al

      sl : SameBound S q.lower r.lower
      sl = same-of_still S q.lower r.lower h.lo g.lo

      su : SameBound (opposite S) q.upper r.upper
      su = same-of_still (opposite S) q.upper r.upper h.hi g.hi

      spots : point (bound_key S (resolve_deferred S q).lower) (bound_key S (resolve_deferred S q).upper) ≡
          point (bound_key S (resolve_deferred S r).lower) (bound_key S (resolve_deferred S r).upper)
      spots = let x = resolve_excluded-keys S q.excluded (range_of q) in let y =
          resolve_excluded-keys S r.excluded (range_of r) in ap (λ l. point l (bound_key S (resolve_deferred S q).upper))
          (x.0 ∙ same_key S S.order S.total q.lower r.lower sl ∙ sym y.0) ∙
          ap (point (bound_key S (resolve_deferred S r).lower))
          (x.1 ∙ same_key S (opp S.order) (opp-total S.total) q.upper r.upper su ∙ sym y.1)

      shows : (k : K) → admits_emitted S q (some k) ≡ admits_emitted S r (some k)
      shows k = rw (
        same-clears S q.lower r.lower sl k,
        same-clears (opposite S) q.upper r.upper su k,
        sub_same S q.excluded r.excluded g.ex h.ex k,
      )

      feas : (k : K) → is_feasible S (resolve_deferred S q) k ≡ is_feasible S (resolve_deferred S r) k
      feas k = ap (λ s. s && (is_allowed S q.allowed k && not (contains S k q.disallowed)))
          (resolve_emitted S q (some k) a ∙ shows k ∙ sym (resolve_emitted S r (some k) b)) ∙
          ap (λ i. admits_emitted S (resolve_deferred S r) (some k) && (i && not (contains S k q.disallowed)))
          (alike-in q.allowed r.allowed al k) ∙
          ap (λ m. admits_emitted S (resolve_deferred S r) (some k) && (is_allowed S r.allowed k && not m))
          (sub_same S q.disallowed r.disallowed g.di h.di k)
