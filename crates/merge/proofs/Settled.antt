-- A resolved column: its excluded values lie strictly inside its bounds. So resolving it again changes nothing, and
-- two columns that say the same resolve to the same, in whatever order the excluded values came.
use mathlib.Core.Path.{◌≡◌, refl, sym, ◌∙◌, ap}
use mathlib.Core.Bool.{Bool, true, false, not, ◌&&◌, ◌||◌, and-false, true≢false, and-eq-true_iff, cond}
use mathlib.Core.Bool.{or-false, or-true, or_assoc}
use mathlib.Core.List.{List, [], ◌∷◌, ◌++◌, append_assoc, append-nil}
use mathlib.Core.Option.{Option, none, some, none-ne-some, some-injective}
use Rattle.truth.proofs.Orders.{cmp-eq, cmp-gt, cmp-lt, cmp-refl, opp-total}
use Rattle.truth.specs.Order.{View, above, equal_view, greater_view, less_view, is_equal, opp}
use Rattle.std.specs.declared.cmp.Ordering.{Ordering}
use Rattle.std.specs.declared.cmp.Ordering.TheVariants.{Equal, Greater, Less}
use Rattle.constraints.proofs.Bounds.{SameBound, same-clears, same-of_still}
use Rattle.constraints.proofs.Columns.{admits_emitted}
use Rattle.constraints.proofs.Merges.{Implies, or_no}
use Rattle.constraints.proofs.Resolved.{Consistent, resolve_consistent, resolve_emitted}
use Rattle.constraints.proofs.Resolves.{resolve_if, range_of}
use Rattle.constraints.proofs.Sets.{contains-append, contains-insert}
use Rattle.constraints.specs.Bound.{Bound, absent, at, clears, crosses, crosses_by}
use Rattle.constraints.specs.Column.{ColumnConstraints}
use Rattle.constraints.specs.Resolve.{Range, classify_at, classify_by, classify_upper, fixed_at, resolve_by}
use Rattle.constraints.specs.Resolve.{resolve_deferred, resolve_excluded}
use Rattle.constraints.specs.Scalars.{Scalars, opposite}
use Rattle.constraints.specs.Values.{contains, insert}
use Rattle.constraints.specs.declared.column.ExcludedResolution.{ExcludedResolution}
use Rattle.constraints.specs.declared.column.ExcludedResolution.TheVariants.{Drop, Keep, TightenLower, TightenUpper}
use Rattle.merge.proofs.BoundKeys.{bound_key, resolve_if_keys, resolve_excluded-keys, same_key, sub_same}

module _ {K Val : Type 0} (S : Scalars K Val) where
  -- strictly on the right side of a lower bound
  abbrev pub past : Bound Val → K → Bool
  past absent k = true
  past (at c w) k = above false (S.order.cmp (S.key w) k)

  abbrev above_key : Option K → K → Bool
  above_key none k = true
  above_key (some j) k = above false (S.order.cmp j k)

abbrev pub is_keep : ExcludedResolution → Bool
is_keep Drop = false
is_keep Keep = true
is_keep TightenLower = false
is_keep TightenUpper = false

is_keep_lem : (f : ExcludedResolution) → is_keep f ≡ true → f ≡ Keep
is_keep_lem Drop e = absurd (true≢false (sym e))
is_keep_lem Keep e = refl
is_keep_lem TightenLower e = absurd (true≢false (sym e))
is_keep_lem TightenUpper e = absurd (true≢false (sym e))

module _ {K Val : Type 0} (S : Scalars K Val) where
  -- strictly between two bounds
  abbrev pub inside : Bound Val → Bound Val → K → Bool
  inside l u k = past S l k && past (opposite S) u k

  -- an excluded value is kept exactly if it is
  keep-up : (u : Bound Val) (e : Val) → is_keep (classify_upper S u e) ≡ past (opposite S) u (S.key e)
  keep-up absent e = refl
  keep-up (at d w) e = go d (S.total.view (S.key w) (S.key e))
    where
      go : (d : Bool) {o : Ordering} → View S.order.less (S.key w) (S.key e) o →
          is_keep (classify_by o d TightenUpper Keep) ≡ above false (S.order.cmp (S.key e) (S.key w))
      go d (less_view p) = rw (cmp-gt S.total p)
      go true (equal_view p) = rw (cmp-eq S.total (sym p))
      go false (equal_view p) = rw (cmp-eq S.total (sym p))
      go d (greater_view p) = rw (cmp-lt S.total p)

  pub keep-inside : (l u : Bound Val) (e : Val) → is_keep (classify_at S l u e) ≡ inside l u (S.key e)
  keep-inside absent u e = keep-up u e
  keep-inside (at c w) u e = go c (S.total.view (S.key e) (S.key w))
    where
      go : (c : Bool) {o : Ordering} → View S.order.less (S.key e) (S.key w) o →
          is_keep (classify_by o c TightenLower (classify_upper S u e)) ≡
          (above false (S.order.cmp (S.key w) (S.key e)) && past (opposite S) u (S.key e))
      go c (less_view p) = rw (cmp-gt S.total p)
      go true (equal_view p) = rw (cmp-eq S.total (sym p))
      go false (equal_view p) = rw (cmp-eq S.total (sym p))
      go c (greater_view p) = rw (cmp-lt S.total p) (keep-up u e)

  -- it speaks of the bounds' keys only
  past_key : (P : Scalars K Val) (b : Bound Val) (k : K) → P.key ≡ S.key → past P b k ≡ above_key P (bound_key S b) k
  past_key P absent k e = refl
  past_key P (at c w) k e = ap (λ f. above false (P.order.cmp (f w) k)) e

  inside-keys : (l u l' u' : Bound Val) (k : K) → bound_key S l ≡ bound_key S l' →
      bound_key S u ≡ bound_key S u' → inside l u k ≡ inside l' u' k
  inside-keys l u l' u' k p q = rw (
    past_key S l k refl,
    past_key S l' k refl,
    past_key (opposite S) u k refl,
    past_key (opposite S) u' k refl,
    p,
    q,
  )

  abbrev pub AllInside : Bound Val → Bound Val → List Val → Type 0
  AllInside l u m = (k : K) → contains S k m ≡ true → inside l u k ≡ true

  -- ---- what is kept lies inside
  abbrev InRange : Range Val → Type 0
  InRange r = AllInside r.lower r.upper r.kept

  in_range_keys : (r : Range Val) (l u : Bound Val) → bound_key S l ≡ bound_key S r.lower →
      bound_key S u ≡ bound_key S r.upper → InRange r → AllInside l u r.kept
  in_range_keys r l u p q h k e = inside-keys l u r.lower r.upper k p q ∙ h k e

  insert-inside : (l u : Bound Val) (e : Val) (m : List Val) → inside l u (S.key e) ≡ true → AllInside l u m →
      AllInside l u (insert S e m)
  insert-inside l u e m i h k c = go (contains S k m) refl (sym (contains-insert S k e m) ∙ c)
    where
      go : (b : Bool) → contains S k m ≡ b → (b || is_equal (S.order.cmp k (S.key e))) ≡ true → inside l u k ≡ true
      go true p x = h k p
      go false p x = at-equal (S.total.view k (S.key e)) x
        where
          at-equal : {o : Ordering} → View S.order.less k (S.key e) o → is_equal o ≡ true → inside l u k ≡ true
          at-equal (less_view q) x = absurd (true≢false (sym x))
          at-equal (equal_view q) x = ap (inside l u) q ∙ i
          at-equal (greater_view q) x = absurd (true≢false (sym x))

  step-inside : (e : Val) (r : Range Val) (b : Bool) → InRange r → InRange (resolve_if S b e r)
  step-inside e r true h = h
  step-inside e r false h = go (classify_at S r.lower r.upper e) refl (resolve_if_keys S e r false)
    where
      go : (f : ExcludedResolution) → classify_at S r.lower r.upper e ≡ f →
          (bound_key S (resolve_by S f e r).lower ≡ bound_key S r.lower) ×
          (bound_key S (resolve_by S f e r).upper ≡ bound_key S r.upper) → InRange (resolve_by S f e r)
      go Drop p q = h
      go Keep p q = insert-inside r.lower r.upper e r.kept
          (sym (keep-inside r.lower r.upper e) ∙ ap is_keep p) h
      go TightenLower p q = in_range_keys r (resolve_by S TightenLower e r).lower (resolve_by S TightenLower e r).upper q.0 q.1 h
      go TightenUpper p q = in_range_keys r (resolve_by S TightenUpper e r).lower (resolve_by S TightenUpper e r).upper q.0 q.1 h

  walk_inside : (l : List Val) (r : Range Val) → InRange r → InRange (resolve_excluded S l r)
  walk_inside [] r h = h
  walk_inside (e ∷ l) r h = walk_inside l (resolve_if S r.crossed e r) (step-inside e r r.crossed h)

  -- ---- no key is kept twice
  -- the values of the second list, one by one, are not in the first
  abbrev pub AllNew : List Val → List Val → Type 0
  AllNew m [] = Unit {0}
  AllNew m (v ∷ l) = (contains S (S.key v) m ≡ false) × AllNew (m ++ (v ∷ [])) l

  new-snoc : (m l : List Val) (v : Val) → AllNew m l → (contains S (S.key v) m || contains S (S.key v) l) ≡ false →
      AllNew m (l ++ (v ∷ []))
  new-snoc m [] v h e = ((or_no (contains S (S.key v) m) false e).0, tt)
  new-snoc m (w ∷ l) v h e = (
    h.0,
    new-snoc (m ++ (w ∷ [])) l v h.1 (rw (
      contains-append S (S.key v) m (w ∷ []),
      or-false,
      or_assoc (contains S (S.key v) m) (is_equal (S.order.cmp (S.key v) (S.key w))) (contains S (S.key v) l),
    ) e),
  )

  insert-new : (v : Val) (l : List Val) → AllNew [] l → AllNew [] (insert S v l)
  insert-new v l h = go (contains S (S.key v) l) refl
    where
      go : (b : Bool) → contains S (S.key v) l ≡ b → AllNew [] (cond b l (l ++ (v ∷ [])))
      go true e = h
      go false e = new-snoc [] l v h e

  walk-new : (l : List Val) (r : Range Val) → AllNew [] r.kept → AllNew [] (resolve_excluded S l r).kept
  walk-new [] r h = h
  walk-new (e ∷ l) r h = walk-new l (resolve_if S r.crossed e r) (go r.crossed)
    where
      by : (f : ExcludedResolution) → AllNew [] (resolve_by S f e r).kept
      by Drop = h
      by Keep = insert-new e r.kept h
      by TightenLower = h
      by TightenUpper = h

      go : (b : Bool) → AllNew [] (resolve_if S b e r).kept
      go true = h
      go false = by (classify_at S r.lower r.upper e)

  -- ---- a settled column: what resolving leaves
  pub record Settled (q : ColumnConstraints Val) : Type 0 where
    pub between : AllInside q.lower q.upper q.excluded
    pub uncrossed : crosses S q.lower q.upper ≡ false
    pub once : AllNew [] q.excluded

  pub resolve_settles : (q : ColumnConstraints Val) → Consistent S q → (resolve_deferred S q).unsat ≡ false →
      Settled (resolve_deferred S q)
  resolve_settles q c h =
      record {
        between = walk_inside q.excluded (range_of q) (λ k e. absurd (true≢false (sym e)));
        uncrossed = resolve_consistent S q c h;
        once = walk-new q.excluded (range_of q) tt;
      }

  -- ---- it stays as it is
  abbrev pub range : Bound Val → Bound Val → List Val → Range Val
  range l u m = record { lower = l; upper = u; kept = m; crossed = false }

  keep-step : (l u : Bound Val) (m : List Val) (v : Val) → crosses S l u ≡ false → inside l u (S.key v) ≡ true →
      contains S (S.key v) m ≡ false → resolve_if S false v (range l u m) ≡ range l u (m ++ (v ∷ []))
  keep-step l u m v x i n = rw (is_keep_lem (classify_at S l u v) (keep-inside l u v ∙ i), n, x)

  pub keep_all : (e : List Val) (l u : Bound Val) (m : List Val) → crosses S l u ≡ false → AllInside l u e →
      AllNew m e → resolve_excluded S e (range l u m) ≡ range l u (m ++ e)
  keep_all [] l u m x i n = ap (range l u) (sym (append-nil m))
  keep_all (v ∷ e) l u m x i n =
      ap (resolve_excluded S e) (keep-step l u m v x (i (S.key v) here) n.0)
      ∙ keep_all e l u (m ++ (v ∷ [])) x (λ k h. i k (later k h)) n.1
      ∙ ap (range l u) (append_assoc m (v ∷ []) e)
    where
      here : contains S (S.key v) (v ∷ e) ≡ true
      here = rw (cmp-refl S.total (S.key v))

      later : (k : K) → contains S k e ≡ true → contains S k (v ∷ e) ≡ true
      later k h = rw h (or-true (is_equal (S.order.cmp k (S.key v))))

  pub settled_stays : (q : ColumnConstraints Val) → Settled q →
      resolve_excluded S q.excluded (range_of q) ≡ range q.lower q.upper q.excluded
  settled_stays q h = keep_all q.excluded q.lower q.upper [] h.uncrossed h.between h.once

  -- ---- what a settled column shows tells its bounds and excluded values
  above-uncrossed : (o : Ordering) (d : Bool) → crosses_by o true d ≡ false → above d o ≡ true
  above-uncrossed Less d e = refl
  above-uncrossed Equal true e = refl
  above-uncrossed Equal false e = absurd (true≢false e)
  above-uncrossed Greater d e = absurd (true≢false e)

  above-uncrossed' : (o : Ordering) (d : Bool) → crosses_by o d true ≡ false → above d o ≡ true
  above-uncrossed' Less d e = refl
  above-uncrossed' Equal true e = refl
  above-uncrossed' Equal false e = absurd (true≢false e)
  above-uncrossed' Greater d e = absurd (true≢false e)

  lower_clears : (w : Val) (u : Bound Val) → crosses S (at true w) u ≡ false → clears (opposite S) u (S.key w) ≡ true
  lower_clears w absent e = refl
  lower_clears w (at d z) e = above-uncrossed (S.order.cmp (S.key w) (S.key z)) d e

  upper-clears : (l : Bound Val) (w : Val) → crosses S l (at true w) ≡ false → clears S l (S.key w) ≡ true
  upper-clears absent w e = refl
  upper-clears (at d z) w e = above-uncrossed' (S.order.cmp (S.key z) (S.key w)) d e

  not-excluded : (l u : Bound Val) (m : List Val) (k : K) → AllInside l u m → inside l u k ≡ false →
      not (contains S k m) ≡ true
  not-excluded l u m k i h = go (contains S k m) refl
    where
      go : (b : Bool) → contains S k m ≡ b → not b ≡ true
      go true e = absurd (true≢false (sym (i k e) ∙ h))
      go false e = refl

  -- a bound is closed exactly if its key is taken
  abbrev shows : Bound Val → Bound Val → List Val → K → Bool
  shows l u m k = clears S l k && (clears (opposite S) u k && not (contains S k m))

  lower-closed : (c : Bool) (w : Val) (u : Bound Val) (m : List Val) → crosses S (at c w) u ≡ false →
      AllInside (at c w) u m → c ≡ shows (at c w) u m (S.key w)
  lower-closed c w u m x i = go c x ∙ rw (cmp-refl S.total (S.key w))
    where
      go : (c : Bool) → crosses S (at c w) u ≡ false → c ≡
          (c && (clears (opposite S) u (S.key w) && not (contains S (S.key w) m)))
      go false x = refl
      go true x = rw (
        lower_clears w u x,
        not-excluded (at true w) u m (S.key w) i
            (rw (cmp-refl S.total (S.key w))),
      )

  upper-closed : (l : Bound Val) (c : Bool) (w : Val) (m : List Val) → crosses S l (at c w) ≡ false →
      AllInside l (at c w) m → c ≡ shows l (at c w) m (S.key w)
  upper-closed l c w m x i = go c x ∙ rw (cmp-refl S.total (S.key w))
    where
      go : (c : Bool) → crosses S l (at c w) ≡ false → c ≡
          (clears S l (S.key w) && (c && not (contains S (S.key w) m)))
      go false x = sym (and-false (clears S l (S.key w)))
      go true x = rw (
        upper-clears l w x,
        not-excluded l (at true w) m (S.key w) i
            (rw (cmp-refl S.total (S.key w)) (and-false (past S l (S.key w)))),
      )

  -- ---- columns that show the same have the same bounds, and the same excluded values as sets
  pub record Agree (q r : ColumnConstraints Val) : Type 0 where
    pub low : SameBound S q.lower r.lower
    pub up : SameBound (opposite S) q.upper r.upper
    pub exc : (k : K) → contains S k q.excluded ≡ contains S k r.excluded

  same-flip : (P : Scalars K Val) (a b : Bound Val) → SameBound P a b → SameBound P b a
  same-flip P absent absent s = tt
  same-flip P absent (at d w) s = absurd s
  same-flip P (at c v) absent s = absurd s
  same-flip P (at c v) (at d w) s = (sym s.0, sym s.1)

  pub agree_flip : (q r : ColumnConstraints Val) → Agree q r → Agree r q
  agree_flip q r g =
      record {
        low = same-flip S q.lower r.lower g.low;
        up = same-flip (opposite S) q.upper r.upper g.up;
        exc = λ k. sym (g.exc k);
      }

  abbrev SameKeys : Bound Val → Bound Val → Type 0
  SameKeys b b' = bound_key S b ≡ bound_key S b'

  abbrev SameShown : ColumnConstraints Val → ColumnConstraints Val → Type 0
  SameShown q r = (k : K) → admits_emitted S q (some k) ≡ admits_emitted S r (some k)

  same_low : (l l' u u' : Bound Val) (m m' : List Val) → crosses S l u ≡ false → crosses S l' u' ≡ false →
      AllInside l u m → AllInside l' u' m' → SameKeys l l' → ((k : K) → shows l u m k ≡ shows l' u' m' k) →
      SameBound S l l'
  same_low absent absent u u' m m' x x' i i' e s = tt
  same_low absent (at d z) u u' m m' x x' i i' e s = none-ne-some (S.key z) e
  same_low (at c w) absent u u' m m' x x' i i' e s = none-ne-some (S.key w) (sym e)
  same_low (at c w) (at d z) u u' m m' x x' i i' e s =
      let k = some-injective (S.key w) (S.key z) e in
      (k, lower-closed c w u m x i ∙ s (S.key w) ∙ ap (shows (at d z) u' m') k ∙ sym (lower-closed d z u' m' x' i'))

  same_up : (l l' u u' : Bound Val) (m m' : List Val) → crosses S l u ≡ false → crosses S l' u' ≡ false →
      AllInside l u m → AllInside l' u' m' → SameKeys u u' → ((k : K) → shows l u m k ≡ shows l' u' m' k) →
      SameBound (opposite S) u u'
  same_up l l' absent absent m m' x x' i i' e s = tt
  same_up l l' absent (at d z) m m' x x' i i' e s = none-ne-some (S.key z) e
  same_up l l' (at c w) absent m m' x x' i i' e s = none-ne-some (S.key w) (sym e)
  same_up l l' (at c w) (at d z) m m' x x' i i' e s =
      let k = some-injective (S.key w) (S.key z) e in
      (k, upper-closed l c w m x i ∙ s (S.key w) ∙ ap (shows l' (at d z) m') k ∙ sym (upper-closed l' d z m' x' i'))

  past_clears : (P : Scalars K Val) (b : Bound Val) (k : K) → past P b k ≡ true → clears P b k ≡ true
  past_clears P absent k e = refl
  past_clears P (at c w) k e = go (P.order.cmp (P.key w) k) e
    where
      go : (o : Ordering) → above false o ≡ true → above c o ≡ true
      go Less e = refl
      go Equal e = absurd (true≢false (sym e))
      go Greater e = absurd (true≢false (sym e))

  -- inside its bounds a column shows exactly what is not excluded
  shows-inside : (l u : Bound Val) (m : List Val) (k : K) → inside l u k ≡ true → shows l u m k ≡ not (contains S k m)
  shows-inside l u m k i =
      let p = (and-eq-true_iff (past S l k) (past (opposite S) u k)).0 i in
      rw (past_clears S l k p.0, past_clears (opposite S) u k p.1)

  excluded-too : (l l' u u' : Bound Val) (m m' : List Val) (k : K) → AllInside l u m → SameKeys l l' →
      SameKeys u u' → shows l u m k ≡ shows l' u' m' k → contains S k m ≡ true → contains S k m' ≡ true
  excluded-too l l' u u' m m' k i el eu s h = go (contains S k m') refl
    where
      n : not (contains S k m) ≡ not (contains S k m')
      n = sym (shows-inside l u m k (i k h)) ∙ s
          ∙ shows-inside l' u' m' k (sym (inside-keys l u l' u' k el eu) ∙ i k h)

      go : (b : Bool) → contains S k m' ≡ b → b ≡ true
      go true e = refl
      go false e = absurd (true≢false (sym (n ∙ ap not e) ∙ ap not h))

  both_ways : (a b : Bool) → (a ≡ true → b ≡ true) → (b ≡ true → a ≡ true) → a ≡ b
  both_ways true b f g = sym (f refl)
  both_ways false true f g = g refl
  both_ways false false f g = refl

  pub settled_agree : (q r : ColumnConstraints Val) → Settled q → Settled r → SameKeys q.lower r.lower →
      SameKeys q.upper r.upper → SameShown q r → Agree q r
  settled_agree q r a b el eu s =
      record {
        low = same_low q.lower r.lower q.upper r.upper q.excluded r.excluded a.uncrossed
            b.uncrossed a.between b.between el s;
        up = same_up q.lower r.lower q.upper r.upper q.excluded r.excluded a.uncrossed
            b.uncrossed a.between b.between eu s;
        exc = λ k. both_ways (contains S k q.excluded) (contains S k r.excluded)
            (excluded-too q.lower r.lower q.upper r.upper q.excluded r.excluded k a.between el eu
            (s k))
            (excluded-too r.lower q.lower r.upper q.upper r.excluded q.excluded k b.between
            (sym el) (sym eu) (sym (s k)));
      }

  -- ---- columns that have all that the other says resolve to the same
  pub ends_resolve_alike : (q r : ColumnConstraints Val) → Implies S q r → Implies S r q → Consistent S q →
      Consistent S r → (resolve_deferred S q).unsat ≡ false → (resolve_deferred S r).unsat ≡ false →
      Agree (resolve_deferred S q) (resolve_deferred S r)
  ends_resolve_alike q r h g cq cr a b =
      let x = resolve_excluded-keys S q.excluded (range_of q) in
      let y = resolve_excluded-keys S r.excluded (range_of r) in
      settled_agree (resolve_deferred S q) (resolve_deferred S r) (resolve_settles q cq a) (resolve_settles r cr b)
      (x.0 ∙ same_key S S.order S.total q.lower r.lower sl ∙ sym y.0)
      (x.1 ∙ same_key S (opp S.order) (opp-total S.total) q.upper r.upper su ∙ sym y.1)
      (λ k. resolve_emitted S q (some k) a ∙ shown k ∙ sym (resolve_emitted S r (some k) b))
    where
      sl : SameBound S q.lower r.lower
      sl = same-of_still S q.lower r.lower h.lo g.lo

      su : SameBound (opposite S) q.upper r.upper
      su = same-of_still (opposite S) q.upper r.upper h.hi g.hi

      shown : SameShown q r
      shown k = rw (
        same-clears S q.lower r.lower sl k,
        same-clears (opposite S) q.upper r.upper su k,
        sub_same S q.excluded r.excluded g.ex h.ex k,
      )

  -- ---- resolving fixes no column
  closed_of : (P : Scalars K Val) (b : Bound Val) (k : K) → P.key ≡ S.key → bound_key S b ≡ some k →
      clears P b k ≡ true → (w : Val) × (b ≡ at true w) × (S.key w ≡ k)
  closed_of P absent k e p h = absurd (none-ne-some k p)
  closed_of P (at c w) k e p h =
      (w, ap (λ x. at x w) (sym (rw (e, j, cmp-refl P.total k)) ∙ h), j)
    where
      j : S.key w ≡ k
      j = some-injective (S.key w) k p

  pub unfixed_stays : (l u l' u' : Bound Val) (m m' : List Val) → crosses S l u ≡ false → AllInside l u m →
      SameKeys l' l → SameKeys u' u → ((k : K) → shows l u m k ≡ shows l' u' m' k) → fixed_at S l' u' ≡ none →
      fixed_at S l u ≡ none
  unfixed_stays absent u l' u' m m' x i el eu s n = refl
  unfixed_stays (at false w) u l' u' m m' x i el eu s n = refl
  unfixed_stays (at true w) absent l' u' m m' x i el eu s n = refl
  unfixed_stays (at true w) (at false z) l' u' m m' x i el eu s n = refl
  unfixed_stays (at true w) (at true z) l' u' m m' x i el eu s n = go (S.total.view (S.key w) (S.key z))
    where
      go : {o : Ordering} → View S.order.less (S.key w) (S.key z) o → cond (is_equal o) (some w) none ≡ none
      go (less_view p) = refl
      go (greater_view p) = refl
      go (equal_view p) =
          let sw = sym (s (S.key w)) ∙ sym (lower-closed true w (at true z) m x i) in
          let sz = sym (s (S.key z)) ∙ sym (upper-closed (at true w) true z m x i) in
          let a = closed_of S l' (S.key w) refl el
          ((and-eq-true_iff (clears S l' (S.key w)) _).0 sw).0 in
          let b = closed_of (opposite S) u' (S.key z) refl eu
          ((and-eq-true_iff (clears (opposite S) u' (S.key z)) _).0
          ((and-eq-true_iff (clears S l' (S.key z)) _).0 sz).1).0 in
          let f : fixed_at S (at true a.0) (at true b.0) ≡ none =
          sym (ap (λ y. fixed_at S y (at true b.0)) a.1) ∙ sym (ap (fixed_at S l') b.1) ∙ n in
          absurd (none-ne-some a.0 (sym f ∙
          rw (cmp-eq S.total (a.2 ∙ p ∙ sym b.2))))

  pub resolve_unfixed : (q : ColumnConstraints Val) → Consistent S q → (resolve_deferred S q).unsat ≡ false →
      fixed_at S q.lower q.upper ≡ none →
      fixed_at S (resolve_deferred S q).lower (resolve_deferred S q).upper ≡ none
  resolve_unfixed q c a n =
      let r = resolve_deferred S q in
      let h = resolve_settles q c a in
      let x = resolve_excluded-keys S q.excluded (range_of q) in
      unfixed_stays r.lower r.upper q.lower q.upper r.excluded q.excluded h.uncrossed
      h.between (sym x.0) (sym x.1) (λ k. resolve_emitted S q (some k) a) n
