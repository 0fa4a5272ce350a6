-- The keys of a column's bounds, which resolving keeps.
use mathlib.Core.Path.{◌≡◌, refl, sym, ◌∙◌, ap}
use mathlib.Core.Bool.{Bool, true, false, true≢false}
use mathlib.Core.List.{List, [], ◌∷◌}
use mathlib.Core.Option.{Option, none, some}
use Rattle.truth.specs.Order.{Order, Total, View, equal_view, greater_view, less_view}
use Rattle.std.specs.declared.cmp.Ordering.{Ordering}
use Rattle.std.specs.declared.cmp.Ordering.TheVariants.{Equal, Greater, Less}
use Rattle.constraints.proofs.Bounds.{SameBound}
use Rattle.constraints.proofs.Resolves.{resolve_if}
use Rattle.constraints.proofs.Sets.{subset-contains}
use Rattle.constraints.specs.Bound.{Bound, absent, at}
use Rattle.constraints.specs.Resolve.{Range, classify_at, classify_by, classify_upper}
use Rattle.constraints.specs.Resolve.{open_at, resolve_by, resolve_excluded}
use Rattle.constraints.specs.Scalars.{Scalars}
use Rattle.constraints.specs.Values.{contains, subset}
use Rattle.constraints.specs.declared.column.ExcludedResolution.{ExcludedResolution}
use Rattle.constraints.specs.declared.column.ExcludedResolution.TheVariants.{Drop, Keep, TightenLower, TightenUpper}

module _ {K Val : Type 0} (S : Scalars K Val) where
  abbrev pub bound_key : Bound Val → Option K
  bound_key absent = none
  bound_key (at c v) = some (S.key v)

  -- ---- resolving keeps the keys of the bounds
  is_ol : ExcludedResolution → Bool
  is_ol Drop = false
  is_ol Keep = false
  is_ol TightenLower = true
  is_ol TightenUpper = false

  is_ou : ExcludedResolution → Bool
  is_ou Drop = false
  is_ou Keep = false
  is_ou TightenLower = false
  is_ou TightenUpper = true

  up_not_low : (u : Bound Val) (e : Val) → is_ol (classify_upper S u e) ≡ false
  unfolding is_ol
  up_not_low absent e = refl
  up_not_low (at d w) e = go (S.order.cmp (S.key w) (S.key e)) d
    where
      go : (o : Ordering) (d : Bool) → is_ol (classify_by o d TightenUpper Keep) ≡ false
      go Less d = refl
      go Equal true = refl
      go Equal false = refl
      go Greater d = refl

  low-key : (l u : Bound Val) (e : Val) → is_ol (classify_at S l u e) ≡ true → some (S.key e) ≡ bound_key l
  unfolding is_ol
  low-key absent u e h = absurd (true≢false (sym h ∙ up_not_low u e))
  low-key (at c w) u e h = go c (S.total.view (S.key e) (S.key w)) h
    where
      go : (c : Bool) {o : Ordering} → View S.order.less (S.key e) (S.key w) o →
          is_ol (classify_by o c TightenLower (classify_upper S u e)) ≡ true → some (S.key e) ≡ some (S.key w)
      go c (less_view p) h = absurd (true≢false (sym h))
      go c (equal_view p) h = ap some p
      go c (greater_view p) h = absurd (true≢false (sym h ∙ up_not_low u e))

  up_key : (l u : Bound Val) (e : Val) → is_ou (classify_at S l u e) ≡ true → some (S.key e) ≡ bound_key u
  unfolding is_ou
  up_key l u e h = top l h
    where
      sub-key : (u : Bound Val) → is_ou (classify_upper S u e) ≡ true → some (S.key e) ≡ bound_key u
      sub-key absent h = absurd (true≢false (sym h))
      sub-key (at d w) h = go d (S.total.view (S.key w) (S.key e)) h
        where
          go : (d : Bool) {o : Ordering} → View S.order.less (S.key w) (S.key e) o →
              is_ou (classify_by o d TightenUpper Keep) ≡ true → some (S.key e) ≡ some (S.key w)
          go d (less_view p) h = absurd (true≢false (sym h))
          go d (equal_view p) h = ap some (sym p)
          go d (greater_view p) h = absurd (true≢false (sym h))

      top : (l : Bound Val) → is_ou (classify_at S l u e) ≡ true → some (S.key e) ≡ bound_key u
      top absent h = sub-key u h
      top (at c w) h = go c (S.order.cmp (S.key e) (S.key w)) h
        where
          go : (c : Bool) (o : Ordering) → is_ou (classify_by o c TightenLower (classify_upper S u e)) ≡ true →
              some (S.key e) ≡ bound_key u
          go c Less h = absurd (true≢false (sym h))
          go true Equal h = absurd (true≢false (sym h))
          go false Equal h = absurd (true≢false (sym h))
          go c Greater h = sub-key u h

  open_key : (b : Bound Val) (e : Val) → bound_key (open_at S b e) ≡ some (S.key e)
  open_key absent e = refl
  open_key (at c w) e = ap some (S.opened-key w e)

  abbrev KeysKept : Range Val → Range Val → Type 0
  KeysKept r r' = (bound_key r'.lower ≡ bound_key r.lower) × (bound_key r'.upper ≡ bound_key r.upper)

  pub resolve_if_keys : (e : Val) (r : Range Val) (b : Bool) → KeysKept r (resolve_if S b e r)
  unfolding is_ol is_ou
  resolve_if_keys e r true = (refl, refl)
  resolve_if_keys e r false = step (classify_at S r.lower r.upper e) refl
    where
      step : (f : ExcludedResolution) → classify_at S r.lower r.upper e ≡ f → KeysKept r (resolve_by S f e r)
      step Drop p = (refl, refl)
      step Keep p = (refl, refl)
      step TightenLower p = (open_key r.lower e ∙ low-key r.lower r.upper e (ap is_ol p), refl)
      step TightenUpper p = (refl, open_key r.upper e ∙ up_key r.lower r.upper e (ap is_ou p))

  pub resolve_excluded-keys : (l : List Val) (r : Range Val) → KeysKept r (resolve_excluded S l r)
  resolve_excluded-keys [] r = (refl, refl)
  resolve_excluded-keys (e ∷ l) r =
      let h = resolve_excluded-keys l (resolve_if S r.crossed e r) in
      let k = resolve_if_keys e r r.crossed in (h.0 ∙ k.0, h.1 ∙ k.1)

  pub same_key : (P : Order K) (L : Total P) (a b : Bound Val) →
      SameBound (record { key = S.key; order = P; total = L; opened = S.opened; opened-key = S.opened-key }) a b →
      bound_key a ≡ bound_key b
  same_key P L absent absent s = refl
  same_key P L absent (at d w) s = absurd s
  same_key P L (at c v) absent s = absurd s
  same_key P L (at c v) (at d w) s = ap some s.0

  pub sub_same : (l m : List Val) → subset S l m ≡ true → subset S m l ≡ true → (k : K) → contains S k l ≡ contains S k m
  sub_same l m h g k = go (contains S k l) refl (contains S k m) refl
    where
      go : (x : Bool) → contains S k l ≡ x → (y : Bool) → contains S k m ≡ y → x ≡ y
      go true e true d = refl
      go true e false d = sym (subset-contains S k l m h e) ∙ d
      go false e true d = sym e ∙ subset-contains S k m l g d
      go false e false d = refl
