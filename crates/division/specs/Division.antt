-- Division of whole numbers, rounded down: what it is, and the one quotient and remainder that it has.
use Rattle.std.specs.Prelude.{◌≡◌, Bool, false, cond, not, ◌||◌, ◌⊎◌, ℕ, zero, suc, ◌-◌, ◌/◌, ◌%◌, ◌<◌, ltb, eqb, ℤ, pos, negsuc, neg_ℤ, ◌+ℤ◌, ◌*ℤ◌, Option, Some, None}
use Rattle.std.specs.Int.{w64}
use Rattle.std.proofs.Common.{to_z}

-- The remainder r is smaller than the divisor b, signs apart, and has its sign or is zero.
abbrev pub Under : ℤ → ℤ → Type 0
Under (pos b) (pos r) = r < b
Under (pos b) (negsuc r) = ⊥
Under (negsuc b) (pos zero) = Unit {0}
Under (negsuc b) (pos (suc r)) = ⊥
Under (negsuc b) (negsuc r) = r < b

-- Quotient × divisor + remainder is the dividend. No q and r are that for b zero, and for another b one q and one r are
-- (`division-is` and `unique` in proofs/Divisions.antt).
pub record IsDivision (a b q r : ℤ) : Type 0 where
  pub exact : q *ℤ b +ℤ r ≡ a
  pub under : Under b r

-- 64 bits signed.
abbrev pub fits : ℤ → Bool
fits (pos n) = ltb n 9223372036854775808
fits (negsuc n) = ltb n 9223372036854775808

-- The quotient is beyond 64 bits.
pub record Beyond (a b : ℤ) : Type 0 where
  pub q : ℤ
  pub r : ℤ
  pub division : IsDivision a b q r
  pub unfit : fits q ≡ false

-- What the code answers for the dividend a and the divisor b: none exactly if there is no quotient within 64 bits.
abbrev pub Divides : ℤ → ℤ → Option (ℕ × ℕ) → Type 0
Divides a b None = (b ≡ pos 0) ⊎ Beyond a b
Divides a b (Some (q, r)) = IsDivision a b (to_z w64 q) (to_z w64 r)

-- The same, computed. For a divisor above zero: -n - 1 has the quotient -(n / b) - 1.
abbrev pub quotient_by : ℕ → ℤ → ℤ
quotient_by b (pos n) = pos (n / b)
quotient_by b (negsuc n) = negsuc (n / b)

abbrev pub remainder_by : ℕ → ℤ → ℕ
remainder_by b (pos n) = n % b
remainder_by b (negsuc n) = b - suc (n % b)

-- For one below zero both signs are turned.
abbrev pub quotient : ℤ → ℤ → ℤ
quotient a (pos b) = quotient_by b a
quotient a (negsuc b) = quotient_by (suc b) (neg_ℤ a)

abbrev pub remainder : ℤ → ℤ → ℤ
remainder a (pos b) = pos (remainder_by b a)
remainder a (negsuc b) = neg_ℤ (pos (remainder_by (suc b) (neg_ℤ a)))

abbrev pub is_zero : ℤ → Bool
is_zero (pos n) = eqb n 0
is_zero (negsuc n) = false

-- No quotient within 64 bits.
abbrev pub is_none : ℤ → ℤ → Bool
is_none a b = is_zero b || not (fits (quotient a b))

-- The bits of -x.
unfoldable pub minus_of : ℕ → ℕ
minus_of x = cond (eqb x 0) 0 (18446744073709551616 - x)
