-- One side of a column's range. Stated for lower bounds; an upper bound is a lower bound of the order read backwards.
use mathlib.Core.Path.{◌≡◌, refl, sym, ◌∙◌, ap, subst}
use mathlib.Core.Bool.{Bool, true, false, not, ◌&&◌, and-false, and_comm, true≢false}
use Rattle.truth.proofs.Orders.{cmp-eq, cmp-gt, cmp-lt}
use Rattle.truth.specs.Order.{View, above, equal_view, greater_view, less_view}
use Rattle.std.specs.declared.cmp.Ordering.{Ordering}
use Rattle.std.specs.declared.cmp.Ordering.TheVariants.{Equal, Greater, Less}
use Rattle.constraints.specs.Bound.{Bound, absent, at, clears, crosses, crosses_by, is_change, tighten, tighten_by}
use Rattle.constraints.specs.Scalars.{Scalars, opposite}

-- whether it moves, by how the new value compares with the held one
abbrev pub tightens_by : {Val : Type 0} → Ordering → Bool → Val → Bool → Val → Bool
tightens_by o d w c v = is_change (tighten_by o d w c v).change

module _ {K Val : Type 0} (S : Scalars K Val) where
  -- a key above the higher bound is above the lower one
  clears-chain : (a b k : K) (c d : Bool) → S.order.less a b →
      (above d (S.order.cmp a k) && above c (S.order.cmp b k)) ≡ above c (S.order.cmp b k)
  clears-chain a b k c d h = go (S.total.view b k)
    where
      low : S.order.less a k → (o : Ordering) → (above d (S.order.cmp a k) && above c o) ≡ above c o
      low p o = simp (cmp-lt S.total p)

      go : {o : Ordering} → View S.order.less b k o → (above d (S.order.cmp a k) && above c o) ≡ above c o
      go (less_view p) = low (S.total.trans h p) Less
      go (equal_view e) = low (subst (S.order.less a) e h) Equal
      go (greater_view p) = simp and-false

  pub above-and : (c d : Bool) (o : Ordering) → above (c && d) o ≡ (above d o && above c o)
  above-and true true Less = refl
  above-and true false Less = refl
  above-and false true Less = refl
  above-and false false Less = refl
  above-and true true Equal = refl
  above-and true false Equal = refl
  above-and false true Equal = refl
  above-and false false Equal = refl
  above-and c d Greater = refl

  pub tighten-is_intersection : (b : Bound Val) (c : Bool) (v : Val) (k : K) → clears S (tighten S b c v).bound k ≡
      (clears S b k && clears S (at c v) k)
  tighten-is_intersection absent c v k = refl
  tighten-is_intersection (at d w) c v k = go (S.total.view (S.key v) (S.key w))
    where
      go : {o : Ordering} → View S.order.less (S.key v) (S.key w) o → clears S (tighten_by o d w c v).bound k ≡
          (clears S (at d w) k && clears S (at c v) k)
      go (less_view h) = sym (clears-chain (S.key v) (S.key w) k d c h) ∙
          and_comm (clears S (at c v) k) (clears S (at d w) k)
      go (equal_view e) = rw e (above-and c d (S.order.cmp (S.key w) k))
      go (greater_view h) = sym (clears-chain (S.key w) (S.key v) k c d h)

  -- whether the bound moves
  abbrev pub tightens : Bound Val → Bool → Val → Bool
  tightens b c v = is_change (tighten S b c v).change

  -- what does not move the bound leaves it
  pub tighten-changes_nothing : (b : Bound Val) (c : Bool) (v : Val) → tightens b c v ≡ false →
      (tighten S b c v).bound ≡ b
  tighten-changes_nothing absent c v e = absurd (true≢false e)
  tighten-changes_nothing (at d w) c v e = go (S.order.cmp (S.key v) (S.key w)) c d e
    where
      go : (o : Ordering) (c d : Bool) → tightens_by o d w c v ≡ false → (tighten_by o d w c v).bound ≡ at d w
      go Greater c d e = absurd (true≢false e)
      go Equal true true e = refl
      go Equal true false e = refl
      go Equal false true e = absurd (true≢false e)
      go Equal false false e = refl
      go Less c d e = refl

  -- two bounds of one place: the same keys, open or closed alike
  abbrev pub SameBound : Bound Val → Bound Val → Type 0
  SameBound absent absent = Unit {0}
  SameBound absent (at c v) = ⊥
  SameBound (at c v) absent = ⊥
  SameBound (at c v) (at d w) = (S.key v ≡ S.key w) × (c ≡ d)

  abbrev pub tightens_from : Bound Val → Bound Val → Bool
  tightens_from b absent = false
  tightens_from b (at c v) = tightens b c v

  pub same-of_still : (a b : Bound Val) → tightens_from a b ≡ false → tightens_from b a ≡ false → SameBound a b
  same-of_still absent absent p q = tt
  same-of_still absent (at d w) p q = absurd (true≢false p)
  same-of_still (at c v) absent p q = absurd (true≢false q)
  same-of_still (at c v) (at d w) p q = go (S.total.view (S.key v) (S.key w)) p q
    where
      both : (c d : Bool) → tightens_by Equal c v d w ≡ false → tightens_by Equal d w c v ≡ false → c ≡ d
      both true true p q = refl
      both true false p q = absurd (true≢false p)
      both false true p q = absurd (true≢false q)
      both false false p q = refl

      go : {o : Ordering} → View S.order.less (S.key v) (S.key w) o →
          tightens_by (S.order.cmp (S.key w) (S.key v)) c v d w ≡ false → tightens_by o d w c v ≡ false →
          (S.key v ≡ S.key w) × (c ≡ d)
      go (less_view h) p q = absurd (true≢false (rw (cmp-gt S.total h) at p))
      go (equal_view e) p q = (e, both c d (rw (cmp-eq S.total (sym e)) at p) q)
      go (greater_view h) p q = absurd (true≢false q)

module _ {K Val : Type 0} (S : Scalars K Val) where
  pub crossing_clears_nothing : (l u : Bound Val) (k : K) → crosses S l u ≡ true →
      (clears S l k && clears (opposite S) u k) ≡ false
  crossing_clears_nothing absent u k e = absurd (true≢false (sym e))
  crossing_clears_nothing (at c v) absent k e = absurd (true≢false (sym e))
  crossing_clears_nothing (at c v) (at d w) k e = go (S.total.view (S.key v) (S.key w))
      (S.total.view (S.key v) k) e
    where
      eqs : (c d : Bool) → not (c && d) ≡ true → (c && d) ≡ false
      eqs true true e = sym e
      eqs true false e = refl
      eqs false d e = refl

      go : {o p : Ordering} → View S.order.less (S.key v) (S.key w) o → View S.order.less (S.key v) k p →
          crosses_by o c d ≡ true → (above c p && above d (S.order.cmp k (S.key w))) ≡ false
      go (less_view h) q e = absurd (true≢false (sym e))
      go (equal_view e) (less_view q) x = rw (cmp-gt S.total (subst (λ y. S.order.less y k) e q))
      go (equal_view e) (equal_view q) x = rw (cmp-eq S.total (sym q ∙ e)) (eqs c d x)
      go (equal_view e) (greater_view q) x = refl
      go (greater_view h) (less_view q) x = rw (cmp-gt S.total (S.total.trans h q))
      go (greater_view h) (equal_view q) x = rw (cmp-gt S.total (subst (S.order.less (S.key w)) q h)) (and-false c)
      go (greater_view h) (greater_view q) x = refl

module _ {K Val : Type 0} (S : Scalars K Val) where
  pub same-clears : (a b : Bound Val) → SameBound S a b → (k : K) → clears S a k ≡ clears S b k
  same-clears absent absent s k = refl
  same-clears absent (at d w) s k = absurd s
  same-clears (at c v) absent s k = absurd s
  same-clears (at c v) (at d w) s k = ap (λ x. above c (S.order.cmp x k)) s.0 ∙
      ap (λ x. above x (S.order.cmp (S.key w) k)) s.1
