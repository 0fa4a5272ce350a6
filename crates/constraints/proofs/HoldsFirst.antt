-- A column holds of equal values the one that was given first.
use mathlib.Core.Path.{◌≡◌, refl, sym, ◌∙◌, ap, subst, fun_ext}
use mathlib.Core.Bool.{Bool, true, false, ◌&&◌, ◌||◌, cond, true≢false}
use mathlib.Core.List.{List, [], ◌∷◌, ◌++◌, append_assoc}
use mathlib.Core.Logic.{inl, inr}
use Rattle.truth.proofs.Orders.{cmp-eq}
use Rattle.truth.specs.Order.{View, equal_view, greater_view, less_view}
use Rattle.std.specs.declared.cmp.Ordering.{Ordering}
use Rattle.constraints.specs.declared.column.Nullability.{Nullability}
use Rattle.constraints.proofs.LineKept.{Each, each_append, each-one, Held, held-each, empty-held}
use Rattle.constraints.proofs.Sets.{contains-append}
use Rattle.constraints.specs.Scalars.{Scalars, opposite}
use Rattle.constraints.specs.Bound.{Bound, absent, at, tighten_by, tighten}
use Rattle.constraints.specs.Values.{contains, insert}
use Rattle.constraints.specs.Column.{ColumnConstraints, Constraint, Lower, Upper, Exclude, Allow, Disallow, Require}
use Rattle.constraints.specs.Column.{put, add, add_all, empty}
use Rattle.constraints.specs.LineKept.{Limit, LowerBound, UpperBound, ExcludedValue, bound_value, given_as, all_given_as}
use Rattle.constraints.specs.LineKept.{FirstIn, HoldsFirst}

module _ {K Val : Type 0} (S : Scalars K Val) where
  first_more : (v : Val) (l m : List Val) → FirstIn S v l → FirstIn S v (l ++ m)
  first_more v [] m h = absurd h
  first_more v (w ∷ l) m (inl e) = inl e
  first_more v (w ∷ l) m (inr h) = inr (h.0, first_more v l m h.1)

  first-new : (v : Val) (l : List Val) → Each (λ w. S.key w ≡ S.key v → ⊥) l → FirstIn S v (l ++ (v ∷ []))
  first-new v [] h = inl refl
  first-new v (w ∷ l) h = inr (h w (inl refl), first-new v l (λ x i. h x (inr i)))

  -- a bound is as tight as the value
  abbrev pub Covers : Bound Val → Val → Type 0
  Covers absent w = ⊥
  Covers (at c v) w = S.order.less (S.key v) (S.key w) → ⊥

  tighten-first : (b : Bound Val) (c : Bool) (v : Val) (l : List Val) → Each (λ x. FirstIn S x l) (bound_value b) →
      Each (Covers b) l → Each (λ x. FirstIn S x (l ++ (v ∷ []))) (bound_value (tighten S b c v).bound) ×
      Each (Covers (tighten S b c v).bound) (l ++ (v ∷ []))
  tighten-first absent c v l h g = (
    each-one (λ x. FirstIn S x (l ++ (v ∷ []))) v (first-new v l (λ x i e. g x i)),
    each_append (Covers (at c v)) l (v ∷ []) (λ x i. absurd (g x i)) (each-one (Covers (at c v)) v S.total.irrefl),
  )
  tighten-first (at d w) c v l h g = go (S.total.view (S.key v) (S.key w))
    where
      Q : Val → Type 0
      Q x = FirstIn S x (l ++ (v ∷ []))

      -- the held one stays
      stays : (e : Bool) → Covers (at e w) v → Each Q (bound_value (at e w)) × Each (Covers (at e w)) (l ++ (v ∷ []))
      stays e k = (
        each-one Q w (first_more w l (v ∷ []) (h w (inl refl))),
        each_append (Covers (at e w)) l (v ∷ []) g (each-one (Covers (at e w)) v k),
      )

      go : {o : Ordering} → View S.order.less (S.key v) (S.key w) o →
          Each Q (bound_value (tighten_by o d w c v).bound) × Each (Covers (tighten_by o d w c v).bound) (l ++ (v ∷ []))
      go (less_view p) = stays d (λ q. S.total.irrefl (S.total.trans p q))
      go (equal_view e) = stays (c && d) (λ q. S.total.irrefl (subst (S.order.less (S.key w)) e q))
      go (greater_view p) = (
        each-one Q v (first-new v l (λ x i e. g x i (subst (S.order.less (S.key w)) (sym e) p))),
        each_append (Covers (at c v)) l (v ∷ []) (λ x i q. g x i (S.total.trans p q))
            (each-one (Covers (at c v)) v S.total.irrefl),
      )

module _ {K Val : Type 0} (S : Scalars K Val) where
  abbrev pub Has : List Val → Val → Type 0
  Has l w = contains S (S.key w) l ≡ true

  insert-first : (v : Val) (m l : List Val) → Each (λ x. FirstIn S x l) m → Each (Has m) l →
      Each (λ x. FirstIn S x (l ++ (v ∷ []))) (insert S v m) × Each (Has (insert S v m)) (l ++ (v ∷ []))
  insert-first v m l h g = go (contains S (S.key v) m) refl
    where
      Q : Val → Type 0
      Q x = FirstIn S x (l ++ (v ∷ []))

      go : (b : Bool) → contains S (S.key v) m ≡ b →
          Each Q (cond b m (m ++ (v ∷ []))) × Each (Has (cond b m (m ++ (v ∷ [])))) (l ++ (v ∷ []))
      go true e = (
        λ x i. first_more S x l (v ∷ []) (h x i),
        each_append (Has m) l (v ∷ []) g (each-one (Has m) v e),
      )
      go false e = (
        each_append Q m (v ∷ []) (λ x i. first_more S x l (v ∷ []) (h x i))
            (each-one Q v (first-new S v l (λ x i p. true≢false (sym (g x i) ∙ ap (λ j. contains S j m) p ∙ e)))),
        each_append (Has (m ++ (v ∷ []))) l (v ∷ [])
            (λ x i. contains-append S (S.key x) m (v ∷ []) ∙ ap (λ b. b || contains S (S.key x) (v ∷ [])) (g x i))
            (each-one (Has (m ++ (v ∷ []))) v (contains-append S (S.key v) m (v ∷ []) ∙
            (let same : S.key v ≡ S.key v = refl in rw (e, cmp-eq S.total same)))),
      )

  abbrev pub Covered : Bound Val → Bound Val → List Val → Limit → Val → Type 0
  Covered l u e LowerBound w = Covers S l w
  Covered l u e UpperBound w = Covers (opposite S) u w
  Covered l u e ExcludedValue w = Has e w

  -- of the values given so far, by limit
  abbrev pub Firsts : (Limit → List Val) → ColumnConstraints Val → Type 0
  Firsts given q = Held S (λ k v. FirstIn S v (given k)) q

  abbrev pub AllCovered : (Limit → List Val) → ColumnConstraints Val → Type 0
  AllCovered given q = (k : Limit) → Each (Covered q.lower q.upper q.excluded k) (given k)

  three : (Q : Limit → Type 0) → Q LowerBound → Q UpperBound → Q ExcludedValue → (k : Limit) → Q k
  three Q l u e LowerBound = l
  three Q l u e UpperBound = u
  three Q l u e ExcludedValue = e

  more : (m l n : List Val) → Each (λ x. FirstIn S x l) m → Each (λ x. FirstIn S x (l ++ n)) m
  more m l n h x i = first_more S x l n (h x i)

  kept : (Q : Val → Type 0) (l : List Val) → Each Q l → Each Q (l ++ [])
  kept Q l h = each_append Q l [] h (λ x i. absurd i)

  pub longer : (q : ColumnConstraints Val) (given m : Limit → List Val) → Firsts given q →
      Firsts (λ k. given k ++ m k) q
  longer q given m h = (
    more (bound_value q.lower) (given LowerBound) (m LowerBound) h.0,
    more (bound_value q.upper) (given UpperBound) (m UpperBound) h.1,
    more q.excluded (given ExcludedValue) (m ExcludedValue) h.2,
  )

  unmoved : (q : ColumnConstraints Val) (given : Limit → List Val) → Firsts given q → AllCovered given q →
      Firsts (λ k. given k ++ []) q × AllCovered (λ k. given k ++ []) q
  unmoved q given h g = (
    longer q given (λ k. []) h,
    λ k. kept (Covered q.lower q.upper q.excluded k) (given k) (g k),
  )

  put_first : (a : Constraint Val) (q : ColumnConstraints Val) (given : Limit → List Val) → Firsts given q →
      AllCovered given q → Firsts (λ k. given k ++ given_as a k) (put S a q) ×
      AllCovered (λ k. given k ++ given_as a k) (put S a q)
  put_first (Lower c v) q given h g =
      let t = tighten-first S q.lower c v (given LowerBound) h.0 (g LowerBound) in
      let u = unmoved q given h g in
      let r = put S (Lower c v) q in (
        (t.0, u.0.1, u.0.2),
        three (λ k. Each (Covered r.lower r.upper r.excluded k) (given k ++ given_as (Lower c v) k))
            t.1 (u.1 UpperBound) (u.1 ExcludedValue),
      )
  put_first (Upper c v) q given h g =
      let t = tighten-first (opposite S) q.upper c v (given UpperBound) h.1 (g UpperBound) in
      let u = unmoved q given h g in
      let r = put S (Upper c v) q in (
        (u.0.0, t.0, u.0.2),
        three (λ k. Each (Covered r.lower r.upper r.excluded k) (given k ++ given_as (Upper c v) k))
            (u.1 LowerBound) t.1 (u.1 ExcludedValue),
      )
  put_first (Exclude v) q given h g =
      let t = insert-first v q.excluded (given ExcludedValue) h.2 (g ExcludedValue) in
      let u = unmoved q given h g in
      let r = put S (Exclude v) q in (
        (u.0.0, u.0.1, t.0),
        three (λ k. Each (Covered r.lower r.upper r.excluded k) (given k ++ given_as (Exclude v) k))
            (u.1 LowerBound) (u.1 UpperBound) t.1,
      )
  put_first (Allow l) q given h g = unmoved q given h g
  put_first (Disallow c l) q given h g = unmoved q given h g
  put_first (Require n) q given h g = unmoved q given h g

  -- a column, and what was given to it
  abbrev pub HoldsFirsts : (Limit → List Val) → ColumnConstraints Val → Type 0
  HoldsFirsts given q = Firsts given q × (q.unsat ≡ false → AllCovered given q)

  pub nothing-more : (q : ColumnConstraints Val) (given : Limit → List Val) → HoldsFirsts given q →
      HoldsFirsts (λ k. given k ++ []) q
  nothing-more q given h = (longer q given (λ k. []) h.0, λ f. (unmoved q given h.0 (h.1 f)).1)

  add-first : (a : Constraint Val) (q : ColumnConstraints Val) (given : Limit → List Val) → HoldsFirsts given q →
      HoldsFirsts (λ k. given k ++ given_as a k) (add S a q)
  add-first a q given h = go q.unsat refl
    where
      go : (b : Bool) → q.unsat ≡ b → HoldsFirsts (λ k. given k ++ given_as a k) (cond b q (put S a q))
      go true e = (longer q given (given_as a) h.0, λ f. absurd (true≢false (sym e ∙ f)))
      go false e = let r = put_first a q given h.0 (h.1 e) in (r.0, λ f. r.1)

  pub require_first : (n : Nullability) (q : ColumnConstraints Val) (given : Limit → List Val) → HoldsFirsts given q →
      HoldsFirsts given (add S (Require n) q)
  require_first n q given h = go q.unsat refl
    where
      go : (b : Bool) → q.unsat ≡ b → HoldsFirsts given (cond b q (put S (Require n) q))
      go true e = h
      go false e = (h.0, λ f. h.1 e)

  pub add_all-first : (l : List (Constraint Val)) (q : ColumnConstraints Val) (given : Limit → List Val) →
      HoldsFirsts given q → HoldsFirsts (λ k. given k ++ all_given_as l k) (add_all S l q)
  add_all-first [] q given h = nothing-more q given h
  add_all-first (a ∷ l) q given h = subst (λ m. HoldsFirsts m (add_all S l (add S a q)))
      (fun_ext (λ k. append_assoc (given k) (given_as a k) (all_given_as l k)))
      (add_all-first l (add S a q) (λ k. given k ++ given_as a k) (add-first a q given h))

  pub empty-first : HoldsFirsts (λ k. []) empty
  empty-first = (empty-held S (λ k v. ⊥), λ f k x i. absurd i)

  pub holds-first : HoldsFirst S
  holds-first l = held-each S (λ k v. FirstIn S v (all_given_as l k)) (add_all S l empty)
      (add_all-first l empty (λ k. []) empty-first).0
