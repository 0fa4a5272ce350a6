-- What is true of every value that a column was given is true of every value it holds; so its line is kept.
use mathlib.Core.Path.{◌≡◌, refl, sym, ap, subst}
use mathlib.Core.Bool.{Bool, true, false, ◌&&◌, cond, true≢false}
use mathlib.Core.List.{List, [], ◌∷◌, ◌++◌, map}
use mathlib.Core.Option.{Option, none, some, some-injective}
use mathlib.Core.Logic.{◌⊎◌, inl, inr}
use Rattle.truth.proofs.Orders.{cmp-eq}
use Rattle.truth.specs.Order.{View, equal_view, greater_view, less_view, is_equal}
use Rattle.std.specs.declared.cmp.Ordering.{Ordering}
use Rattle.std.specs.declared.cmp.Ordering.TheVariants.{Less, Equal, Greater}
use Rattle.constraints.specs.declared.column.ExcludedResolution.TheVariants.{Keep, TightenLower}
use Rattle.constraints.specs.declared.column.ExcludedResolution.TheVariants.{TightenUpper}
use Rattle.constraints.specs.Scalars.{Scalars, opposite, scalar_cmp}
use Rattle.constraints.specs.Bound.{Bound, absent, at, of_bound, tighten_by, tighten}
use Rattle.constraints.specs.Values.{contains, insert}
use Rattle.constraints.specs.Column.{ColumnConstraints, Constraint, Lower, Upper, Exclude, Allow, Disallow, Require}
use Rattle.constraints.specs.Column.{put, add, add_all, allowed_of, emitted, recorded, merge_from, empty, is_none}
use Rattle.constraints.specs.Resolve.{Range, classify_by, classify_upper, classify_at, open_at, resolve_by}
use Rattle.constraints.specs.Resolve.{resolve_excluded, resolve_deferred}
use Rattle.constraints.specs.Lined.{Lined, lined}
use Rattle.constraints.specs.LineKept.{Limit, LowerBound, UpperBound, ExcludedValue, is_bound, bound_value, held_as}
use Rattle.constraints.specs.LineKept.{OneOf}
use Rattle.constraints.specs.LineKept.{BoundStays, ExcludedStays, PassingKeeps, EqualityIsLower}
use Rattle.constraints.specs.LineKept.{OpeningKeepsLine, ResolvingKeepsLines}

-- ---- lists
abbrev pub Each : {A : Type 0} → (A → Type 0) → List A → Type 0
Each P l = (x : _) → OneOf x l → P x

pub each_append : {A : Type 0} (P : A → Type 0) (l m : List A) → Each P l → Each P m → Each P (l ++ m)
each_append P [] m h k x i = k x i
each_append P (y ∷ l) m h k x (inl e) = h x (inl e)
each_append P (y ∷ l) m h k x (inr i) = each_append P l m (λ z j. h z (inr j)) k x i

pub each-one : {A : Type 0} (P : A → Type 0) (v : A) → P v → Each P (v ∷ [])
each-one P v p x (inl e) = subst P (sym e) p
each-one P v p x (inr i) = absurd i

pub each_map : {A B : Type 0} (P : B → Type 0) (f : A → B) (l : List A) → Each (λ v. P (f v)) l → Each P (map f l)
each_map P f [] h x i = absurd i
each_map P f (v ∷ l) h x (inl e) = subst P (sym e) (h v (inl refl))
each_map P f (v ∷ l) h x (inr i) = each_map P f l (λ z j. h z (inr j)) x i

no_value : {A : Type 0} {v : A} → none ≡ some v → ⊥
no_value e = true≢false (ap is_none e)

module _ {K Val : Type 0} (S : Scalars K Val) where
  -- ---- on an equal value the one held stays
  pub bound-stays : BoundStays S
  bound-stays d c w v e = rw (cmp-eq S.total e)

  pub excluded-stays : ExcludedStays S
  excluded-stays v l e = rw e

  pub equality_is_lower : EqualityIsLower S
  equality_is_lower absent u v e = absurd (no_value e)
  equality_is_lower (at false w) u v e = absurd (no_value e)
  equality_is_lower (at true w) absent v e = absurd (no_value e)
  equality_is_lower (at true w) (at d x) v e = go (d && is_equal (scalar_cmp S w x)) e
    where
      go : (b : Bool) → cond b (some w) none ≡ some v → at true w ≡ at true v
      go true e = ap (at true) (some-injective w v e)
      go false e = absurd (no_value e)

  -- ---- of each value held
  module _ (P : Limit → Val → Type 0) where
    abbrev pub Held : ColumnConstraints Val → Type 0
    Held q = Each (P LowerBound) (bound_value q.lower) × Each (P UpperBound) (bound_value q.upper) ×
        Each (P ExcludedValue) q.excluded

    pub held-each : (q : ColumnConstraints Val) → Held q → (k : Limit) → Each (P k) (held_as q k)
    held-each q h LowerBound = h.0
    held-each q h UpperBound = h.1
    held-each q h ExcludedValue = h.2

    pub each-held : (q : ColumnConstraints Val) → ((k : Limit) → Each (P k) (held_as q k)) → Held q
    each-held q h = (h LowerBound, h UpperBound, h ExcludedValue)

    pub empty-held : Held empty
    empty-held = (λ v i. absurd i, λ v i. absurd i, λ v i. absurd i)

    -- of each value given
    abbrev pub Gives : Constraint Val → Type 0
    Gives (Lower c v) = P LowerBound v
    Gives (Upper c v) = P UpperBound v
    Gives (Exclude v) = P ExcludedValue v
    Gives (Allow l) = Unit {0}
    Gives (Disallow c l) = Unit {0}
    Gives (Require n) = Unit {0}

    tighten-held : (k : Limit) (T : Scalars K Val) (b : Bound Val) (c : Bool) (v : Val) → Each (P k) (bound_value b) →
        P k v → Each (P k) (bound_value (tighten T b c v).bound)
    tighten-held k T absent c v h p = each-one (P k) v p
    tighten-held k T (at d w) c v h p = go (scalar_cmp T v w)
      where
        go : (o : Ordering) → Each (P k) (bound_value (tighten_by o d w c v).bound)
        go Less = h
        go Equal = h
        go Greater = each-one (P k) v p

    insert-held : (v : Val) (l : List Val) → Each (P ExcludedValue) l → P ExcludedValue v →
        Each (P ExcludedValue) (insert S v l)
    insert-held v l h p = go (contains S (S.key v) l)
      where
        go : (b : Bool) → Each (P ExcludedValue) (cond b l (l ++ (v ∷ [])))
        go true = h
        go false = each_append (P ExcludedValue) l (v ∷ []) h (each-one (P ExcludedValue) v p)

    put-held : (a : Constraint Val) (q : ColumnConstraints Val) → Gives a → Held q → Held (put S a q)
    put-held (Lower c v) q g h =
        (tighten-held LowerBound S q.lower c v h.0 g, h.1, h.2)
    put-held (Upper c v) q g h =
        (h.0, tighten-held UpperBound (opposite S) q.upper c v h.1 g, h.2)
    put-held (Exclude v) q g h =
        (h.0, h.1, insert-held v q.excluded h.2 g)
    put-held (Allow l) q g h = h
    put-held (Disallow c l) q g h = h
    put-held (Require n) q g h = h

    pub add-held : (a : Constraint Val) (q : ColumnConstraints Val) → Gives a → Held q → Held (add S a q)
    add-held a q g h = go q.unsat
      where
        go : (b : Bool) → Held (cond b q (put S a q))
        go true = h
        go false = put-held a q g h

    pub add_all-held : (l : List (Constraint Val)) (q : ColumnConstraints Val) → Each Gives l → Held q →
        Held (add_all S l q)
    add_all-held [] q g h = h
    add_all-held (a ∷ l) q g h = add_all-held l (add S a q) (λ x i. g x (inr i)) (add-held a q (g a (inl refl)) h)

    -- one column into another
    emitted-gives : (q : ColumnConstraints Val) → Held q → Each Gives (emitted q)
    emitted-gives q h = each_append Gives (of_bound Lower q.lower) (of_bound Upper q.upper ++ map Exclude q.excluded)
        (lower q.lower h.0)
        (each_append Gives (of_bound Upper q.upper) (map Exclude q.excluded) (upper q.upper h.1)
        (each_map Gives Exclude q.excluded h.2))
      where
        lower : (b : Bound Val) → Each (P LowerBound) (bound_value b) → Each Gives (of_bound Lower b)
        lower absent h = λ x i. absurd i
        lower (at c v) h = each-one Gives (Lower c v) (h v (inl refl))

        upper : (b : Bound Val) → Each (P UpperBound) (bound_value b) → Each Gives (of_bound Upper b)
        upper absent h = λ x i. absurd i
        upper (at c v) h = each-one Gives (Upper c v) (h v (inl refl))

    recorded-gives : (q : ColumnConstraints Val) → Each Gives (recorded q)
    recorded-gives q = each_append Gives (allowed_of q.allowed) (Disallow false q.disallowed ∷ [])
        (list q.allowed) (each-one Gives (Disallow false q.disallowed) tt)
      where
        list : (o : Option (List Val)) → Each Gives (allowed_of o)
        list none = λ x i. absurd i
        list (some l) = each-one Gives (Allow l) tt

    pub merge_held : (q r : ColumnConstraints Val) → Held q → Held r → Held (merge_from S q r)
    merge_held q r h k = add_all-held (recorded r) (add_all S (emitted r) q) (recorded-gives r)
        (add_all-held (emitted r) q (emitted-gives r k) h)

    -- resolving, where it stays true of a bound that an excluded value opens at its own key
    module _ (opens : (k : Limit) (w v : Val) → is_bound k ≡ true → S.key v ≡ S.key w → P k w → P ExcludedValue v →
        P k (S.opened w v)) where
      abbrev HeldRange : Range Val → Type 0
      HeldRange r = Each (P LowerBound) (bound_value r.lower) × Each (P UpperBound) (bound_value r.upper) ×
          Each (P ExcludedValue) r.kept

      open_held : (k : Limit) (c : Bool) (w v : Val) → is_bound k ≡ true → S.key v ≡ S.key w → P ExcludedValue v →
          Each (P k) (bound_value (at c w)) → Each (P k) (bound_value (open_at S (at c w) v))
      open_held k c w v b e p h = each-one (P k) (S.opened w v) (opens k w v b e (h w (inl refl)) p)

      -- above the lower bound it is looked at against the upper one
      upper-held : (l u : Bound Val) (m : List Val) (x : Bool) (v : Val) → P ExcludedValue v →
          let r : Range Val = record { lower = l; upper = u; kept = m; crossed = x } in
          HeldRange r → HeldRange (resolve_by S (classify_upper S u v) v r)
      upper-held l absent m x v p h = (h.0, h.1, insert-held v m h.2 p)
      upper-held l (at d w) m x v p h = go d (S.total.view (S.key w) (S.key v))
        where
          r : Bool → Range Val
          r d = record { lower = l; upper = at d w; kept = m; crossed = x }

          go : (d : Bool) {o : Ordering} → View S.order.less (S.key w) (S.key v) o →
              HeldRange (resolve_by S (classify_by o d TightenUpper Keep) v (r d))
          go d (less_view p) = h
          go true (equal_view e) = (h.0, open_held UpperBound true w v refl (sym e) p h.1, h.2)
          go false (equal_view e) = h
          go d (greater_view q) = (h.0, h.1, insert-held v m h.2 p)

      resolve_by-held : (v : Val) (r : Range Val) → P ExcludedValue v → HeldRange r →
          HeldRange (resolve_by S (classify_at S r.lower r.upper v) v r)
      resolve_by-held v r p h = at-lower r.lower h
        where
          at-lower : (l : Bound Val) →
              HeldRange (record { lower = l; upper = r.upper; kept = r.kept; crossed = r.crossed }) →
              HeldRange (resolve_by S (classify_at S l r.upper v) v
              (record { lower = l; upper = r.upper; kept = r.kept; crossed = r.crossed }))
          at-lower absent h = upper-held absent r.upper r.kept r.crossed v p h
          at-lower (at c w) h = go c (S.total.view (S.key v) (S.key w))
            where
              s : Bool → Range Val
              s c = record { lower = at c w; upper = r.upper; kept = r.kept; crossed = r.crossed }

              go : (c : Bool) {o : Ordering} → View S.order.less (S.key v) (S.key w) o →
                  HeldRange (resolve_by S (classify_by o c TightenLower (classify_upper S r.upper v)) v (s c))
              go c (less_view q) = h
              go true (equal_view e) = (open_held LowerBound true w v refl e p h.0, h.1, h.2)
              go false (equal_view e) = h
              go c (greater_view q) = upper-held (at c w) r.upper r.kept r.crossed v p h

      resolve_excluded-held : (l : List Val) (r : Range Val) → Each (P ExcludedValue) l → HeldRange r →
          HeldRange (resolve_excluded S l r)
      resolve_excluded-held [] r g h = h
      resolve_excluded-held (v ∷ l) r g h = resolve_excluded-held l
          (cond r.crossed r (resolve_by S (classify_at S r.lower r.upper v) v r)) (λ x i. g x (inr i))
          (go r.crossed)
        where
          go : (b : Bool) → HeldRange (cond b r (resolve_by S (classify_at S r.lower r.upper v) v r))
          go true = h
          go false = resolve_by-held v r (g v (inl refl)) h

      pub resolve_held : (q : ColumnConstraints Val) → Held q → Held (resolve_deferred S q)
      resolve_held q h = resolve_excluded-held q.excluded
          (record { lower = q.lower; upper = q.upper; kept = []; crossed = false }) h.2
          (h.0, h.1, λ x i. absurd i)

  pub passing-keeps : PassingKeeps S
  passing-keeps q r k v = held-each P (merge_from S q r)
      (merge_held P q r (each-held P q (λ k v i. inl i)) (each-held P r (λ k v i. inr i))) k v
    where
      P : Limit → Val → Type 0
      P k v = OneOf v (held_as q k) ⊎ OneOf v (held_as r k)

pub opening_keeps_line : OpeningKeepsLine
unfolding lined
opening_keeps_line c w v = refl

pub resolving_keeps_lines : ResolvingKeepsLines
unfolding lined
resolving_keeps_lines q k v = held-each lined P (resolve_deferred lined q)
    (resolve_held lined P (λ k w v b e p x. p) q (each-held lined P q (λ k v i. line_of v (held_as q k) i))) k v
  where
    P : Limit → Lined → Type 0
    P k v = OneOf v.line (map (λ w. w.line) (held_as q k))

    line_of : (v : Lined) (l : List Lined) → OneOf v l → OneOf v.line (map (λ w. w.line) l)
    line_of v [] i = absurd i
    line_of v (w ∷ l) (inl e) = inl (ap (λ x. x.line) e)
    line_of v (w ∷ l) (inr i) = inr (line_of v l i)
