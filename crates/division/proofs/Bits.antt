-- The code's bits as numbers: one law for each way that it ends.
-- Assumes nothing.
use mathlib.Core.Path.{◌≡◌, refl, sym, ◌∙◌, ap, subst}
use mathlib.Core.Bool.{Bool, true, false, not, ◌||◌}
use mathlib.Core.Logic.{inl, inr}
use Prim.Native.Nat.{ℕ, zero, suc, ◌+◌, ◌-◌, ◌/◌, ◌%◌, ◌<◌, ◌≤◌}
use native.Mathlib.Nat.{mod-lt, div-le_self, zero-div, zero-mod}
use native.Mathlib.Omega.{arith}
use lib.Dec.{ltb}
use lib.IntN.{ℤ, pos, negsuc, neg_ℤ, pos-ne-negsuc}
use mir.Syntax.{w64}
use mir.Val.{to_z, sel}
use borrow.Author.Tests.{lt-ltb, le-ltb, ne_eqb, ltb-false}
use Rattle.std.specs.Prelude.{Some, None}
use Rattle.division.specs.Division.{IsDivision, Divides, fits, quotient}
use Rattle.division.specs.Division.{remainder, minus_of, is_zero, is_none}
use Rattle.division.proofs.Divisions.{division-is, unique, none-by_zero}

abbrev half : ℕ
half = 9223372036854775808

abbrev whole : ℕ
whole = 18446744073709551616

-- ---- what the code's steps need
pub div_small : (n b m : ℕ) → n ≤ m → n / b ≤ m
div_small n b m h = let k : n / b ≤ n = div-le_self n b in omega arith

pub mod_small : (n b : ℕ) → 0 < b → n % b ≤ b - 1
mod_small n b h = let k : n % b < b = mod-lt n h in omega arith

-- ---- bits as numbers
low : (n : ℕ) → n < half → to_z w64 n ≡ pos n
low n h = rw (lt-ltb n half h)

high : (n m : ℕ) → half ≤ n → m ≡ whole - suc n → to_z w64 n ≡ negsuc m
high n m h e = rw (le-ltb n half h, ← e)

-- -m - 1
below : (m : ℕ) → m < half → to_z w64 (18446744073709551615 - m) ≡ negsuc m
below m h = high (18446744073709551615 - m) m (omega arith) (omega arith)

minus : (x : ℕ) → x ≤ half → to_z w64 (minus_of x) ≡ neg_ℤ (pos x)
unfolding minus_of
minus zero h = refl
minus (suc x) h = rw (ne_eqb (suc x) 0 (λ e. omega (arith, e))) (high (whole - suc x) x (omega arith) (omega arith))

pub minus_is : (x r : ℕ) → (x ≡ 0 → ⊥) → r + x ≡ whole → r ≡ minus_of x
unfolding minus_of
minus_is x r d e = let k : r ≡ whole - x = omega arith in k ∙ rw (ne_eqb x 0 d)

-- what the code answers is the division, if its bits say the quotient and the remainder
answers :
    (a b : ℤ) (q r : ℕ) → (b ≡ pos 0 → ⊥) → to_z w64 q ≡ quotient a b → to_z w64 r ≡ remainder a b →
    Divides a b (Some (q, r))
answers a b q r h eq er =
    subst (λ x. IsDivision a b x (to_z w64 r)) (sym eq)
    (subst (λ x. IsDivision a b (quotient a b) x) (sym er) (division-is a b h))

some_pos : (n : ℕ) → (n ≡ 0 → ⊥) → pos n ≡ pos 0 → ⊥
some_pos zero h e = h refl
some_pos (suc n) h e = absurd (subst Zero (sym e) tt)
  where
    Zero : ℤ → Type 0
    Zero (pos zero) = Unit {0}
    Zero (pos (suc n)) = ⊥
    Zero (negsuc n) = ⊥

no_negative : (n : ℕ) → negsuc n ≡ pos 0 → ⊥
no_negative n e = pos-ne-negsuc 0 n (sym e)

-- ---- the ways that it ends
pub by_zero : (a b : ℕ) → b ≡ 0 → Divides (to_z w64 a) (to_z w64 b) None
by_zero a b e = inl (ap (to_z w64) e)

module _ (a b : ℕ) where
  module _ (d : b ≡ 0 → ⊥) (hb : b < half) where
    pub up_by_up : a < half → Divides (to_z w64 a) (to_z w64 b) (Some (a / b, a % b))
    up_by_up ha =
        let k : a / b ≤ a = div-le_self a b in
        let l : a % b < b = mod-lt a (omega (arith, d)) in
        rw (low a ha, low b hb)
        (answers (pos a) (pos b) (a / b) (a % b) (some_pos b d) (low (a / b) (omega arith)) (low (a % b) (omega arith)))

    pub down_by_up :
        half ≤ a → a < whole → (n : ℕ) → n ≡ 18446744073709551615 - a →
        Divides (to_z w64 a) (to_z w64 b) (Some (18446744073709551615 - n / b, b - 1 - n % b))
    down_by_up ha hw n e =
        let k : n / b ≤ n = div-le_self n b in
        let l : n % b < b = mod-lt n (omega (arith, d)) in
        let s : b - 1 - n % b ≡ b - suc (n % b) = omega arith in
        rw (high a n ha (omega arith), low b hb)
        (answers (negsuc n) (pos b) (18446744073709551615 - n / b) (b - 1 - n % b) (some_pos b d)
        (below (n / b) (omega arith)) (low (b - 1 - n % b) (omega arith) ∙ ap pos s))

  module _ (hb : half ≤ b) (hw : b < whole) (size : ℕ) (es : size + b ≡ whole) where
    abbrev less : ℕ
    less = whole - suc b

    is_size : suc less ≡ size
    is_size = omega arith

    divisor : to_z w64 b ≡ negsuc less
    divisor = high b less hb refl

    pub zero-by_down : a ≡ 0 → Divides (to_z w64 a) (to_z w64 b) (Some (0, 0))
    zero-by_down e =
        rw (e, divisor)
        (answers (pos 0) (negsuc less) 0 0 (no_negative less) (sym (ap pos (zero-div (suc less))))
        (sym (ap (λ (x : ℕ). neg_ℤ (pos x)) (zero-mod (suc less)))))

    pub up_by_down :
        (a ≡ 0 → ⊥) → a < half → (n : ℕ) → n ≡ a - 1 → (m : ℕ) → m ≡ minus_of (size - 1 - n % size) →
        Divides (to_z w64 a) (to_z w64 b) (Some (18446744073709551615 - n / size, m))
    up_by_down da ha n en m em =
        let z : 0 < size = omega arith in
        let k : n / size ≤ n = div-le_self n size in
        let l : n % size < size = mod-lt n z in
        let ea : a ≡ suc n = omega (arith, da) in
        let s : size - 1 - n % size ≡ size - suc (n % size) = omega arith in
        rw (em, low a ha, ea, divisor)
        (answers (pos (suc n)) (negsuc less) (18446744073709551615 - n / size) (minus_of (size - 1 - n % size))
        (no_negative less) (below (n / size) (omega arith) ∙ ap (λ (x : ℕ). negsuc (n / x)) (sym is_size))
        (minus (size - 1 - n % size) (omega arith) ∙ ap (λ (x : ℕ). neg_ℤ (pos x)) s
        ∙ ap (λ (x : ℕ). neg_ℤ (pos (x - suc (n % x)))) (sym is_size)))

    module _ (ha : half ≤ a) (va : a < whole) (n : ℕ) (en : n + a ≡ whole) where
      dividend : to_z w64 a ≡ negsuc (whole - suc a)
      dividend = high a (whole - suc a) ha refl

      is_n : suc (whole - suc a) ≡ n
      is_n = omega arith

      quotient_is : quotient (negsuc (whole - suc a)) (negsuc less) ≡ pos (n / size)
      quotient_is = rw (is_n, is_size)

      pub beyond : n / size ≡ half → Divides (to_z w64 a) (to_z w64 b) None
      beyond e =
          rw (dividend, divisor)
          (inr (record {
            q = quotient (negsuc (whole - suc a)) (negsuc less);
            r = remainder (negsuc (whole - suc a)) (negsuc less);
            division = division-is (negsuc (whole - suc a)) (negsuc less) (no_negative less);
            unfit = ap fits (quotient_is ∙ ap pos e);
          }))

      pub down_by_down :
          (n / size ≡ half → ⊥) → (m : ℕ) → m ≡ minus_of (n % size) →
          Divides (to_z w64 a) (to_z w64 b) (Some (n / size, m))
      down_by_down dn m em =
          let z : 0 < size = omega arith in
          let k : n / size ≤ n = div-le_self n size in
          let l : n % size < size = mod-lt n z in
          rw (em, dividend, divisor)
          (answers (negsuc (whole - suc a)) (negsuc less) (n / size) (minus_of (n % size)) (no_negative less)
          (low (n / size) (omega (arith, dn)) ∙ sym quotient_is)
          (minus (n % size) (omega arith) ∙ rw (is_n, is_size) refl))

-- ---- what was answered is what is computed
or_true : (b : Bool) → (b || true) ≡ true
or_true true = refl
or_true false = refl

pub none-computed : (a b : ℤ) → Divides a b None → is_none a b ≡ true
none-computed a b (inl e) = ap (λ (x : ℤ). is_none a x) e
none-computed a b (inr d) =
    ap (λ (x : Bool). is_zero b || not x) (ap fits (sym (unique a b d.q d.r d.division).0) ∙ d.unfit)
    ∙ or_true (is_zero b)

bits_fit : (q : ℕ) → fits (to_z w64 q) ≡ true
bits_fit q = go (ltb q half) refl
  where
    go : (b : Bool) → ltb q half ≡ b → fits (sel b (pos q) (negsuc (whole - suc q))) ≡ true
    go true e = e
    go false e = let h : half ≤ q = ltb-false q half e in lt-ltb (whole - suc q) half (omega arith)

not-zero : (b : ℤ) → (b ≡ pos 0 → ⊥) → is_zero b ≡ false
not-zero (pos n) d = ne_eqb n 0 (λ e. d (ap pos e))
not-zero (negsuc n) d = refl

pub exact-computed :
    (a b : ℤ) (q r : ℕ) → Divides a b (Some (q, r)) →
    (is_none a b ≡ false) × (to_z w64 q ≡ quotient a b) × (to_z w64 r ≡ remainder a b)
exact-computed a b q r d =
    let u = unique a b (to_z w64 q) (to_z w64 r) d in
    let z = not-zero b (λ e. none-by_zero a (to_z w64 q) (to_z w64 r) (subst (λ x. IsDivision a x (to_z w64 q) (to_z w64 r)) e d)) in
    (rw (z, ← u.0, bits_fit q), u.0, u.1)
