-- Every divisor that is not zero has a quotient and a remainder, and only these.
-- Assumes nothing.
use mathlib.Core.Path.{◌≡◌, refl, sym, ◌∙◌, ap, subst}
use mathlib.Core.Bool.{false}
use Prim.Native.Nat.{ℕ, zero, suc, ◌+◌, ◌*◌, ◌-◌, ◌/◌, ◌%◌, ◌<◌}
use native.Mathlib.Nat.{mod-lt, div-add-mod', suc-mul}
use native.Mathlib.Omega.{arith}
use lib.Arith.{digits_div, digits_mod}
use lib.Dec.{ltb}
use lib.IntN.{ℤ, pos, negsuc, neg_ℤ, sub_ℕ, ◌+ℤ◌, ◌*ℤ◌, neg_ℤ-neg_ℤ, neg_ℤ-+ℤ, *ℤ-negsuc}
use borrow.Author.Tests.{lt-ltb, le-ltb}
use Rattle.division.specs.Division.{Under, IsDivision, quotient_by, remainder_by, quotient, remainder}

-- r - n
minus_plus : (n r : ℕ) → neg_ℤ (pos n) +ℤ pos r ≡ sub_ℕ r n
minus_plus zero r =
    let e : ltb r 0 ≡ false = le-ltb r 0 (omega arith) in
    let k : 0 + r ≡ r - 0 = omega arith in
    rw e (ap pos k)
minus_plus (suc n) r = refl

below : (r n : ℕ) → r < n → sub_ℕ r n ≡ negsuc (n - suc r)
below r n h = rw (lt-ltb r n h)

-- ---- a divisor above zero
-- -(m + 1) · b + r, where r is below b
under-zero : (m b r : ℕ) → r < b → negsuc m *ℤ pos b +ℤ pos r ≡ negsuc (m * b + (b - suc r))
under-zero m b r h =
    minus_plus (suc m * b) r
    ∙ (let e : suc m * b ≡ m * b + b = suc-mul m b in
    below r (suc m * b) (rw e (small (m * b)))
    ∙ ap negsuc (rw e (rest (m * b))))
  where
    small : (x : ℕ) → r < x + b
    small x = omega arith

    rest : (x : ℕ) → x + b - suc r ≡ x + (b - suc r)
    rest x = omega arith

exact-by : (b : ℕ) (a : ℤ) → 0 < b → quotient_by b a *ℤ pos b +ℤ pos (remainder_by b a) ≡ a
exact-by b (pos n) h = ap pos (div-add-mod' n b)
exact-by b (negsuc n) h =
    let l : n % b < b = mod-lt n h in
    under-zero (n / b) b (b - suc (n % b)) (omega arith)
    ∙ ap negsuc (ap (λ (x : ℕ). n / b * b + x) (twice-less (n % b) l) ∙ div-add-mod' n b)
  where
    twice-less : (r : ℕ) → r < b → b - suc (b - suc r) ≡ r
    twice-less r l = omega arith

under-by : (b : ℕ) (a : ℤ) → 0 < b → remainder_by b a < b
under-by b (pos n) h = mod-lt n h
under-by b (negsuc n) h = let l : n % b < b = mod-lt n h in omega arith

unique_by :
    (b : ℕ) (a q : ℤ) (r : ℕ) → r < b → q *ℤ pos b +ℤ pos r ≡ a → (q ≡ quotient_by b a) × (r ≡ remainder_by b a)
unique_by b a (pos m) r h e =
    subst (λ z. (pos m ≡ quotient_by b z) × (r ≡ remainder_by b z)) e
    (ap pos (sym (digits_div m h)), sym (digits_mod m h))
unique_by b a (negsuc m) r h e =
    let l : b - suc r < b = omega arith in
    let k : b - suc (b - suc r) ≡ r = omega arith in
    subst (λ z. (negsuc m ≡ quotient_by b z) × (r ≡ remainder_by b z)) (sym (under-zero m b r h) ∙ e)
    (ap negsuc (sym (digits_div m l)), sym (ap (λ (x : ℕ). b - suc x) (digits_mod m l) ∙ k))

-- ---- a divisor below zero: both signs turned
turn : (q r : ℤ) (b : ℕ) → neg_ℤ (q *ℤ negsuc b +ℤ r) ≡ q *ℤ pos (suc b) +ℤ neg_ℤ r
turn q r b =
    neg_ℤ-+ℤ (q *ℤ negsuc b) r
    ∙ ap (λ (x : ℤ). x +ℤ neg_ℤ r) (ap neg_ℤ (*ℤ-negsuc q b) ∙ neg_ℤ-neg_ℤ (q *ℤ pos (suc b)))

turn_back : (q : ℤ) (b : ℕ) (a : ℤ) (r : ℕ) → q *ℤ pos (suc b) +ℤ pos r ≡ neg_ℤ a →
    q *ℤ negsuc b +ℤ neg_ℤ (pos r) ≡ a
turn_back q b a r e =
    sym (neg_ℤ-neg_ℤ (q *ℤ negsuc b +ℤ neg_ℤ (pos r)))
    ∙ ap neg_ℤ (turn q (neg_ℤ (pos r)) b ∙ ap (λ (x : ℤ). q *ℤ pos (suc b) +ℤ x) (neg_ℤ-neg_ℤ (pos r)) ∙ e)
    ∙ neg_ℤ-neg_ℤ a

under-turned : (b r : ℕ) → r < suc b → Under (negsuc b) (neg_ℤ (pos r))
under-turned b zero h = tt
under-turned b (suc r) h = omega arith

-- ---- both
pub division-is : (a b : ℤ) → (b ≡ pos 0 → ⊥) → IsDivision a b (quotient a b) (remainder a b)
division-is a (pos zero) h = absurd (h refl)
division-is a (pos (suc b)) h =
    record { exact = exact-by (suc b) a (omega arith); under = under-by (suc b) a (omega arith) }
division-is a (negsuc b) h =
    record {
      exact =
          turn_back (quotient_by (suc b) (neg_ℤ a)) b a (remainder_by (suc b) (neg_ℤ a))
          (exact-by (suc b) (neg_ℤ a) (omega arith));
      under = under-turned b (remainder_by (suc b) (neg_ℤ a)) (under-by (suc b) (neg_ℤ a) (omega arith));
    }

-- A quotient and a remainder are the ones computed.
pub unique : (a b q r : ℤ) → IsDivision a b q r → (q ≡ quotient a b) × (r ≡ remainder a b)
unique a (pos b) q (pos r) d = let u = unique_by b a q r d.under d.exact in (u.0, ap pos u.1)
unique a (pos b) q (negsuc r) d = absurd d.under
unique a (negsuc b) q (pos zero) d =
    let u = unique_by (suc b) (neg_ℤ a) q 0 (omega arith) (sym (turn q (pos 0) b) ∙ ap neg_ℤ d.exact) in
    (u.0, ap (λ (x : ℕ). neg_ℤ (pos x)) u.1)
unique a (negsuc b) q (pos (suc r)) d = absurd d.under
unique a (negsuc b) q (negsuc r) d =
    let l : r < b = d.under in
    let u = unique_by (suc b) (neg_ℤ a) q (suc r) (omega arith) (sym (turn q (negsuc r) b) ∙ ap neg_ℤ d.exact) in
    (u.0, ap (λ (x : ℕ). neg_ℤ (pos x)) u.1)

-- So two of them are the same.
pub same-division :
    (a b q r q' r' : ℤ) → IsDivision a b q r → IsDivision a b q' r' → (q ≡ q') × (r ≡ r')
same-division a b q r q' r' d e =
    let u = unique a b q r d in
    let v = unique a b q' r' e in
    (u.0 ∙ sym v.0, u.1 ∙ sym v.1)

-- No division by zero.
pub none-by_zero : (a q r : ℤ) → IsDivision a (pos 0) q r → ⊥
none-by_zero a q (pos r) d = let h : r < 0 = d.under in omega arith
none-by_zero a q (negsuc r) d = d.under
