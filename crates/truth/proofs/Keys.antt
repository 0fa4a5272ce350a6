-- The order of the biased bits is the order of the keys.
-- Assumes nothing.
use mathlib.Core.Path.{◌≡◌, refl, sym, ◌∙◌, ap}
use mathlib.Core.Bool.{Bool, true, false, cond}
use mathlib.Core.Logic.{◌⊎◌, inl, inr, ⊎_elim}
use Prim.Native.Nat.{ℕ, suc, ◌+◌, ◌-◌, ◌<◌, ◌≤◌, ◌^◌}
use native.Mathlib.Omega.{arith}
use lib.Dec.{ltb, eqb}
use lib.IntN.{pos, negsuc}
use borrow.Author.Tests.{lt-ltb, le-ltb, ltb-true, ltb-false, eqb-true, eqb-false}
use Rattle.std.specs.declared.cmp.Ordering.TheVariants.{Less, Equal, Greater}
use Rattle.std.proofs.Common.{nat_cmp}
use Rattle.truth.specs.Halves.{ord_z, less_z, key, bias_of}
use Rattle.truth.proofs.Orders.{cmp-lt, cmp-gt, cmp-eq, total-z}

abbrev half : ℕ
half = 9223372036854775808

bool_or : (t : Bool) → (t ≡ true) ⊎ (t ≡ false)
bool_or true = inl refl
bool_or false = inr refl

pub lt-or_le : (a b : ℕ) → (a < b) ⊎ (b ≤ a)
lt-or_le a b = ⊎_elim (λ e. inl (ltb-true a b e)) (λ e. inr (ltb-false a b e)) (bool_or (ltb a b))

-- The key of the low half is not negative, that of the high half is.
key-low : (a : ℕ) → a < half → key a ≡ pos (a + a)
key-low a h = rw (lt-ltb a half h)

key-high : (a : ℕ) → half ≤ a → key a ≡ negsuc (suc ((2 ^ 64 - suc a) + (2 ^ 64 - suc a)))
key-high a h = rw (le-ltb a half h)

bias_low : (a : ℕ) → a < half → bias_of a ≡ a + half
unfolding bias_of
bias_low a h = rw (lt-ltb a half h)

bias_high : (a : ℕ) → half ≤ a → bias_of a ≡ a - half
unfolding bias_of
bias_high a h = rw (le-ltb a half h)

pub key-less : (a b : ℕ) → a < 2 ^ 64 → b < 2 ^ 64 → bias_of a < bias_of b → less_z (key a) (key b)
key-less a b ha hb h =
    ⊎_elim
    (λ (p : a < half). ⊎_elim
    (λ (q : b < half). rw (key-low a p, key-low b q) (let k : a + half < b + half = rw (bias_low a p, bias_low b q) at
    h in omega arith))
    (λ (q : half ≤ b). let k : a + half < b - half = rw (bias_low a p, bias_high b q) at h in absurd (omega arith))
    (lt-or_le b half))
    (λ (p : half ≤ a). ⊎_elim
    (λ (q : b < half). rw (key-high a p, key-low b q) tt)
    (λ (q : half ≤ b). rw (key-high a p, key-high b q) (let k : a - half < b - half = rw (
      bias_high a p,
      bias_high b
          q,
    ) at h in omega arith))
    (lt-or_le b half))
    (lt-or_le a half)

bias_same : (a b : ℕ) → a < 2 ^ 64 → b < 2 ^ 64 → bias_of a ≡ bias_of b → a ≡ b
bias_same a b ha hb h =
    ⊎_elim
    (λ (p : a < half). ⊎_elim
    (λ (q : b < half). let k : a + half ≡ b + half = rw (bias_low a p, bias_low b q) at h in omega arith)
    (λ (q : half ≤ b). let k : a + half ≡ b - half = rw (bias_low a p, bias_high b q) at h in omega arith)
    (lt-or_le b half))
    (λ (p : half ≤ a). ⊎_elim
    (λ (q : b < half). let k : a - half ≡ b + half = rw (bias_high a p, bias_low b q) at h in omega arith)
    (λ (q : half ≤ b). let k : a - half ≡ b - half = rw (bias_high a p, bias_high b q) at h in omega arith)
    (lt-or_le b half))
    (lt-or_le a half)

-- What three tests of two biased values say, and with them core's comparison.
module _ (x y a b : ℕ) (ha : a < 2 ^ 64) (hb : b < 2 ^ 64) (p : x ≡ bias_of a) (q : y ≡ bias_of b) where
  pub says_less : x < y → Less ≡ ord_z.cmp (key a) (key b)
  says_less h = sym (cmp-lt total-z {a = key a} {b = key b} (key-less a b ha hb (rw (p, q) at h)))

  pub says-equal : x ≡ y → Equal ≡ ord_z.cmp (key a) (key b)
  says-equal h = sym (cmp-eq total-z {a = key a} {b = key b} (ap key (bias_same a b ha hb (sym p ∙ h ∙ q))))

  pub says-greater : y ≤ x → (x ≡ y → ⊥) → Greater ≡ ord_z.cmp (key a) (key b)
  says-greater h d =
      let l : y < x = omega (arith, d) in sym
      (cmp-gt total-z {a = key a} {b = key b} (key-less b a hb ha (rw (p, q) at l)))

  by_tests : (s t : Bool) → ltb x y ≡ s → eqb x y ≡ t → cond s Less (cond t Equal Greater) ≡ ord_z.cmp (key a) (key b)
  by_tests true t e f = says_less (ltb-true x y e)
  by_tests false true e f = says-equal (eqb-true x y f)
  by_tests false false e f = says-greater (ltb-false x y e) (eqb-false x y f)

  pub cmp_biased : nat_cmp x y ≡ ord_z.cmp (key a) (key b)
  cmp_biased = by_tests (ltb x y) (eqb x y) refl refl
