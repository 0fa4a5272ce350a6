-- Lists of values that stand for sets of keys.
use mathlib.Core.Path.{◌≡◌, refl, sym, ◌∙◌, subst}
use mathlib.Core.Bool.{Bool, true, false, ◌&&◌, ◌||◌, and-false, true≢false, or-false, or_assoc, and-eq-true_iff, cond}
use mathlib.Core.List.{List, [], ◌∷◌, ◌++◌}
use Rattle.truth.specs.Order.{View, equal_view, greater_view, less_view, is_equal}
use Rattle.std.specs.declared.cmp.Ordering.{Ordering}
use Rattle.constraints.specs.Scalars.{Scalars}
use Rattle.constraints.specs.Values.{contains, extend, insert, retain, subset}

module _ {K Val : Type 0} (S : Scalars K Val) where
  pub is_equal-subst : {a b : K} (P : K → Type 0) → is_equal (S.order.cmp a b) ≡ true → P a → P b
  is_equal-subst {a} {b} P = go (S.total.view a b)
    where
      go : {o : Ordering} → View S.order.less a b o → is_equal o ≡ true → P a → P b
      go (less_view h) e p = absurd (true≢false (sym e))
      go (equal_view h) e p = subst P h p
      go (greater_view h) e p = absurd (true≢false (sym e))

  pub contains-append : (k : K) (l m : List Val) → contains S k (l ++ m) ≡ (contains S k l || contains S k m)
  contains-append k [] m = refl
  contains-append k (v ∷ l) m = rw (contains-append k l m)
      (sym (or_assoc (is_equal (S.order.cmp k (S.key v))) (contains S k l) (contains S k m)))

  -- a test that is true only at one key says nothing new where the list has the key
  pub contains-at : (k j : K) (l : List Val) → contains S j l ≡ true → (contains S k l || is_equal (S.order.cmp k j))
      ≡ contains S k l
  contains-at k j l h = go (S.total.view k j)
    where
      go : {o : Ordering} → View S.order.less k j o → (contains S k l || is_equal o) ≡ contains S k l
      go (less_view p) = or-false (contains S k l)
      go (equal_view p) = rw (p, h)
      go (greater_view p) = or-false (contains S k l)

  pub contains-insert : (k : K) (v : Val) (l : List Val) → contains S k (insert S v l) ≡
      (contains S k l || is_equal (S.order.cmp k (S.key v)))
  contains-insert k v l = go (contains S (S.key v) l) refl
    where
      go : (b : Bool) → contains S (S.key v) l ≡ b → contains S k (cond b l (l ++ (v ∷ []))) ≡
          (contains S k l || is_equal (S.order.cmp k (S.key v)))
      go true h = sym (contains-at k (S.key v) l h)
      go false h = simp (contains-append, or-false)

  pub contains-extend : (k : K) (l m : List Val) → contains S k (extend S l m) ≡ (contains S k l || contains S k m)
  contains-extend k l [] = sym (or-false (contains S k l))
  contains-extend k l (v ∷ m) = simp (contains-extend k (insert S v l) m, contains-insert, or_assoc)

  pub contains-retain : (k : K) (m l : List Val) → contains S k (retain S m l) ≡ (contains S k l && contains S k m)
  contains-retain k m [] = refl
  contains-retain k m (v ∷ l) = go (contains S (S.key v) m) refl (contains-retain k m l)
    where
      inn : contains S (S.key v) m ≡ true → {o : Ordering} → View S.order.less k (S.key v) o →
          (is_equal o || contains S k l && contains S k m) ≡ ((is_equal o || contains S k l) && contains S k m)
      inn e (less_view p) = refl
      inn e (equal_view p) = rw (p, e)
      inn e (greater_view p) = refl

      out : contains S (S.key v) m ≡ false → {o : Ordering} → View S.order.less k (S.key v) o →
          (contains S k l && contains S k m) ≡ ((is_equal o || contains S k l) && contains S k m)
      out e (less_view p) = refl
      out e (equal_view p) = rw (p, e) (and-false (contains S (S.key v) l))
      out e (greater_view p) = refl

      go : (b : Bool) → contains S (S.key v) m ≡ b → contains S k (retain S m l) ≡
          (contains S k l && contains S k m) → contains S k (cond b (v ∷ (retain S m l)) (retain S m l)) ≡
          ((is_equal (S.order.cmp k (S.key v)) || contains S k l) && contains S k m)
      go true e ih = rw ih (inn e (S.total.view k (S.key v)))
      go false e ih = ih ∙ out e (S.total.view k (S.key v))

  pub subset-contains : (k : K) (l m : List Val) → subset S l m ≡ true → contains S k l ≡ true → contains S k m ≡ true
  subset-contains k [] m s e = absurd (true≢false (sym e))
  subset-contains k (v ∷ l) m s e =
      go (S.total.view k (S.key v)) e ((and-eq-true_iff (contains S (S.key v) m) (subset S l m)).0 s)
      (subset-contains k l m)
    where
      go : {o : Ordering} → View S.order.less k (S.key v) o → (is_equal o || contains S k l) ≡ true →
          (contains S (S.key v) m ≡ true) × (subset S l m ≡ true) →
          (subset S l m ≡ true → contains S k l ≡ true → contains S k m ≡ true) → contains S k m ≡ true
      go (less_view p) e s ih = ih s.1 e
      go (equal_view p) e s ih = rw p s.0
      go (greater_view p) e s ih = ih s.1 e

  pub extend-subset : (l m : List Val) → subset S m l ≡ true → extend S l m ≡ l
  extend-subset l [] s = refl
  extend-subset l (v ∷ m) s = let h = (and-eq-true_iff (contains S (S.key v) l) (subset S m l)).0 s in
      rw h.0 (extend-subset l m h.1)

  pub retain-subset : (m l : List Val) → subset S l m ≡ true → retain S m l ≡ l
  retain-subset m [] s = refl
  retain-subset m (v ∷ l) s = let h = (and-eq-true_iff (contains S (S.key v) m) (subset S l m)).0 s in
      rw (h.0, retain-subset m l h.1)
