-- The comparison at known relations, the order read backwards, and that whole and half numbers are ordered.
use mathlib.Core.Path.{◌≡◌, refl, sym, ap, subst}
use mathlib.Core.Bool.{not}
use mathlib.Core.Logic.{◌≢◌}
use Prim.Native.Nat as nat
use Prim.Native.Nat.{ℕ, ◌<◌, compare}
use native.Mathlib.Omega.{arith}
use lib.Dec.{T, eqb, is_le, compare_is_eq, leb→le, nleb→lt, eqb→eq, eqb_refl}
use lib.IntN.{ℤ, pos, negsuc}
use Rattle.std.specs.declared.cmp.Ordering.{Ordering}
use Rattle.std.specs.declared.cmp.Ordering.TheVariants.{Less, Equal, Greater}
use Rattle.truth.specs.Order.{View, less_view, equal_view, greater_view, Order, Total, opp}
use Rattle.truth.specs.Halves.{ordering, less_z, cmp_z, ord_z}

module _ {K : Type 0} {O : Order K} (L : Total O) where
  pub cmp-lt : {a b : K} → O.less a b → O.cmp a b ≡ Less
  cmp-lt {a} {b} h = go (L.view a b)
    where
      go : {o : Ordering} → View O.less a b o → o ≡ Less
      go (less_view k) = refl
      go (equal_view e) = absurd (L.irrefl (subst (λ x. O.less x b) e h))
      go (greater_view k) = absurd (L.irrefl (L.trans h k))

  pub cmp-gt : {a b : K} → O.less b a → O.cmp a b ≡ Greater
  cmp-gt {a} {b} h = go (L.view a b)
    where
      go : {o : Ordering} → View O.less a b o → o ≡ Greater
      go (less_view k) = absurd (L.irrefl (L.trans h k))
      go (equal_view e) = absurd (L.irrefl (subst (λ x. O.less b x) e h))
      go (greater_view k) = refl

  pub cmp-refl : (a : K) → O.cmp a a ≡ Equal
  cmp-refl a = go (L.view a a)
    where
      go : {o : Ordering} → View O.less a a o → o ≡ Equal
      go (less_view k) = absurd (L.irrefl k)
      go (equal_view e) = refl
      go (greater_view k) = absurd (L.irrefl k)

  pub cmp-eq : {a b : K} → a ≡ b → O.cmp a b ≡ Equal
  cmp-eq {a} {b} e = subst (λ x. O.cmp a x ≡ Equal) e (cmp-refl a)

opp-view :
    {K : Type 0} {less : K → K → Type 0} {a b : K} {o : Ordering} →
    View less b a o → View (λ x y. less y x) a b o
opp-view (less_view h) = less_view h
opp-view (equal_view e) = equal_view (sym e)
opp-view (greater_view h) = greater_view h

pub opp-total : {K : Type 0} {O : Order K} → Total O → Total (opp O)
opp-total L =
    record { view = λ a b. opp-view (L.view b a); irrefl = L.irrefl; trans = λ h k. L.trans k h }

abbrev less_n : ℕ → ℕ → Type 0
less_n m n = m < n

view_n : (m n : ℕ) → View less_n m n (ordering (compare m n))
view_n m n = go (compare m n) refl
  where
    go : (o : nat.Ordering) → compare m n ≡ o → View less_n m n (ordering o)
    go Prim.Native.Nat.Ordering.lt e = less_view (omega (arith, leb→le m n (subst (λ o. T (is_le o)) (sym e) tt), differ))
      where
        differ : m ≢ n
        differ p = subst (λ o. T (compare_is_eq o)) e (subst (λ x. T (eqb m x)) p (eqb_refl m))
    go Prim.Native.Nat.Ordering.eq e = equal_view (eqb→eq m n (subst (λ o. T (compare_is_eq o)) (sym e) tt))
    go Prim.Native.Nat.Ordering.gt e = greater_view (nleb→lt m n (subst (λ o. T (not (is_le o))) (sym e) tt))

view_z : (a b : ℤ) → View less_z a b (cmp_z a b)
view_z (pos m) (pos n) = go (view_n m n)
  where
    go : {o : Ordering} → View less_n m n o → View less_z (pos m) (pos n) o
    go (less_view h) = less_view h
    go (equal_view e) = equal_view (ap pos e)
    go (greater_view h) = greater_view h
view_z (pos m) (negsuc n) = greater_view tt
view_z (negsuc m) (pos n) = less_view tt
view_z (negsuc m) (negsuc n) = go (view_n n m)
  where
    go : {o : Ordering} → View less_n n m o → View less_z (negsuc m) (negsuc n) o
    go (less_view h) = less_view h
    go (equal_view e) = equal_view (ap negsuc (sym e))
    go (greater_view h) = greater_view h

irrefl_z : (a : ℤ) → less_z a a → ⊥
irrefl_z (pos m) h = omega arith
irrefl_z (negsuc m) h = omega arith

trans_z : (a b c : ℤ) → less_z a b → less_z b c → less_z a c
trans_z (pos a) (pos b) (pos c) h k = omega arith
trans_z (pos a) (pos b) (negsuc c) h k = k
trans_z (pos a) (negsuc b) c h k = absurd h
trans_z (negsuc a) (pos b) (pos c) h k = tt
trans_z (negsuc a) (pos b) (negsuc c) h k = absurd k
trans_z (negsuc a) (negsuc b) (pos c) h k = tt
trans_z (negsuc a) (negsuc b) (negsuc c) h k = omega arith

pub total-z : Total ord_z
total-z =
    record {
      view = view_z;
      irrefl = λ {a} h. irrefl_z a h;
      trans = λ {a} {b} {c} h k. trans_z a b c h k;
    }
