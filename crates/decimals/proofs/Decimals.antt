-- The equation of `decimal`, and how long it is.
use mathlib.Core.Path.{◌≡◌, refl, sym, ◌∙◌, ap}
use mathlib.Core.Bool.{Bool, true, false}
use mathlib.Core.List.{List, [], ◌∷◌, ◌++◌}
use Prim.Native.Nat.{ℕ, zero, suc, ◌+◌, ◌*◌, ◌-◌, ◌/◌, ◌%◌, ◌<◌, ◌≤◌, ◌^◌}
use native.Mathlib.Omega.{arith}
use native.Mathlib.Nat.{mod-eq_of_lt, pow-suc}
use lib.ListN.{length, length-append}
use lib.Dec.{ltb}
use borrow.Author.Tests.{ltb-true, ltb-false, lt-ltb, le-ltb}
use Rattle.records.proofs.Laws.{by-test}
use Rattle.decimals.specs.Decimal.{last_digit, digits, decimal}

pub one-digit : (n : ℕ) → n < 10 → decimal n ≡ (48 + n) ∷ []
unfolding decimal digits
one-digit zero h = refl
one-digit (suc n) h = rw (lt-ltb (suc n) 10 h, mod-eq_of_lt h)

-- the last digit of a number of one digit is the number
pub last_alone : (n : ℕ) → n < 10 → decimal n ≡ last_digit n ∷ []
last_alone n h = one-digit n h ∙ rw (mod-eq_of_lt h)

-- as many places as the number has units are enough, more change nothing
digits-small : (k n : ℕ) → n < 10 → digits k n ≡ last_digit n ∷ []
unfolding digits
digits-small zero n h = refl
digits-small (suc k) n h = rw (lt-ltb n 10 h)

digits-enough : (k m n : ℕ) → n ≤ k → n ≤ m → digits k n ≡ digits m n
unfolding digits
digits-enough zero m n h g = sym (digits-small m n (omega arith))
digits-enough (suc k) zero n h g = digits-small (suc k) n (omega arith)
digits-enough (suc k) (suc m) n h g = rw (digits-enough k m (n / 10) (omega arith) (omega arith))

pub more_digits : (n : ℕ) → 10 ≤ n → decimal n ≡ decimal (n / 10) ++ (last_digit n ∷ [])
unfolding decimal digits
more_digits zero h = absurd (omega arith)
more_digits (suc n) h =
    rw (le-ltb (suc n) 10 h, digits-enough n (suc n / 10) (suc n / 10) (omega arith) (omega arith))

-- what holds of numbers of one digit, and of a number if it does of the digits before its last, holds of every number
pub by_digits : (P : ℕ → Type 0) → ((n : ℕ) → n < 10 → P n) → ((n : ℕ) → 10 ≤ n → P (n / 10) → P n) → (n : ℕ) → P n
by_digits P one more n = go n n (omega arith)
  where
    go : (k n : ℕ) → n ≤ k → P n
    go zero n h = one n (omega arith)
    go (suc k) n h =
        by-test (ltb n 10) (λ t. one n (ltb-true n 10 t))
        (λ t. let g : 10 ≤ n = ltb-false n 10 t in more n g (go k (n / 10) (omega arith)))

pub length-one : (n : ℕ) → n < 10 → length (decimal n) ≡ 1
length-one n h = rw (one-digit n h)

pub length_more : (n : ℕ) → 10 ≤ n → length (decimal n) ≡ length (decimal (n / 10)) + 1
length_more n h = rw (more_digits n h, length-append)

pub length_some : (n : ℕ) → 1 ≤ length (decimal n)
length_some =
    by_digits (λ n. 1 ≤ length (decimal n)) (λ n h. omega (arith, length-one n h)) (λ n h ih. omega (arith, length_more n h))

-- a number below 10 ^ k has at most k digits
pub length-below : (k n : ℕ) → n < 10 ^ suc k → length (decimal n) ≤ suc k
length-below zero n h = omega (arith, length-one n (omega arith))
length-below (suc k) n h =
    by-test (ltb n 10) (λ t. omega (arith, length-one n (ltb-true n 10 t)))
    (λ t.
    let g : 10 ≤ n = ltb-false n 10 t in
    let e : 10 ^ suc (suc k) ≡ 10 ^ suc k * 10 = pow-suc 10 (suc k) in
    let l = length-below k (n / 10) (omega arith) in
    omega (arith, length_more n g))

-- 64 bits have at most 20 digits, the signed ones at most 19
pub length-64 : (n : ℕ) → n < 18446744073709551616 → length (decimal n) ≤ 20
length-64 n h = length-below 19 n (omega arith)

pub length-63 : (n : ℕ) → n ≤ 9223372036854775808 → length (decimal n) ≤ 19
length-63 n h = length-below 18 n (omega arith)
