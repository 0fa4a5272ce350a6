-- Division of keys: numbers given in halves have the same quotient, and the remainder in halves.
-- Assumes nothing.
use mathlib.Core.Path.{◌≡◌, refl, sym, ◌∙◌, ap}
use mathlib.Core.Bool.{Bool, true, false, cond, not, ◌||◌, true≢false}
use mathlib.Core.Option.{none, some}
use Prim.Native.Nat.{ℕ, zero, suc, ◌+◌, ◌*◌, ◌-◌, ◌/◌, ◌%◌, ◌<◌}
use native.Mathlib.Nat.{mod-lt, div-add-mod', mul-add}
use native.Mathlib.Omega.{arith}
use lib.Arith.{digits_div, digits_mod}
use lib.Dec.{eqb}
use lib.IntN.{ℤ, pos, negsuc, neg_ℤ}
use borrow.Author.Tests.{ne_eqb}
use Rattle.std.specs.declared.option.Option as lang
use Rattle.std.specs.declared.option.Option.TheVariants.{None, Some}
use Rattle.division.specs.Division.{Divides, quotient_by, remainder_by, quotient, remainder, is_zero, fits, is_none}
use Rattle.division.proofs.Bits.{none-computed, exact-computed}
use Rattle.truth.specs.Halves.{twice, key, floor_divide_keys, modulus_keys}
use Rattle.truth.specs.Evaluate.{part_of, divided_of}

-- ---- natural numbers: n + n and n + n + 1, divided by b + b
module _ (n b : ℕ) (h : 0 < b) where
  rest : n % b < b
  rest = mod-lt n h

  split : n + n ≡ n / b * (b + b) + (n % b + n % b)
  split =
      let d : n / b * b + n % b ≡ n = div-add-mod' n b in
      let k : n / b * (b + b) ≡ n / b * b + n / b * b = mul-add (n / b) b b in
      omega arith

  split-odd : suc (n + n) ≡ n / b * (b + b) + suc (n % b + n % b)
  split-odd = let s = split in omega (arith, s)

  twice-div : (n + n) / (b + b) ≡ n / b
  twice-div = let r = rest in ap (λ (x : ℕ). x / (b + b)) split ∙ digits_div (n / b) (omega (arith, r))

  twice-mod : (n + n) % (b + b) ≡ n % b + n % b
  twice-mod = let r = rest in ap (λ (x : ℕ). x % (b + b)) split ∙ digits_mod (n / b) (omega (arith, r))

  odd_div : suc (n + n) / (b + b) ≡ n / b
  odd_div = let r = rest in ap (λ (x : ℕ). x / (b + b)) split-odd ∙ digits_div (n / b) (omega (arith, r))

  odd_mod : suc (n + n) % (b + b) ≡ suc (n % b + n % b)
  odd_mod = let r = rest in ap (λ (x : ℕ). x % (b + b)) split-odd ∙ digits_mod (n / b) (omega (arith, r))

-- ---- a divisor above zero
quotient-twice : (b : ℕ) (a : ℤ) → 0 < b → quotient_by (b + b) (twice a) ≡ quotient_by b a
quotient-twice b (pos n) h = ap pos (twice-div n b h)
quotient-twice b (negsuc n) h = ap negsuc (odd_div n b h)

remainder-twice : (b : ℕ) (a : ℤ) → 0 < b → remainder_by (b + b) (twice a) ≡ remainder_by b a + remainder_by b a
remainder-twice b (pos n) h = twice-mod n b h
remainder-twice b (negsuc n) h =
    let r = rest n b h in
    let e : b + b - suc (suc (n % b + n % b)) ≡ (b - suc (n % b)) + (b - suc (n % b)) = omega (arith, r) in
    ap (λ (x : ℕ). b + b - suc x) (odd_mod n b h) ∙ e

-- ---- and one below zero
minus_twice : (a : ℤ) → neg_ℤ (twice a) ≡ twice (neg_ℤ a)
minus_twice (pos zero) = refl
minus_twice (pos (suc n)) = let e : suc n + suc n ≡ suc (suc (n + n)) = omega arith in rw e
minus_twice (negsuc n) = let e : suc (suc (n + n)) ≡ suc n + suc n = omega arith in ap pos e

pub twice-quotient : (a b : ℤ) → is_zero b ≡ false → quotient (twice a) (twice b) ≡ quotient a b
twice-quotient a (pos zero) z = absurd (true≢false z)
twice-quotient a (pos (suc b)) z = quotient-twice (suc b) a (omega arith)
twice-quotient a (negsuc b) z =
    let e : suc (suc (b + b)) ≡ suc b + suc b = omega arith in
    rw (e, minus_twice a) (quotient-twice (suc b) (neg_ℤ a) (omega arith))

pub twice-remainder : (a b : ℤ) → is_zero b ≡ false → remainder (twice a) (twice b) ≡ twice (remainder a b)
twice-remainder a (pos zero) z = absurd (true≢false z)
twice-remainder a (pos (suc b)) z = ap pos (remainder-twice (suc b) a (omega arith))
twice-remainder a (negsuc b) z =
    let e : suc (suc (b + b)) ≡ suc b + suc b = omega arith in
    rw (e, minus_twice a)
    (ap (λ (x : ℕ). neg_ℤ (pos x)) (remainder-twice (suc b) (neg_ℤ a) (omega arith))
    ∙ minus_twice (pos (remainder_by (suc b) (neg_ℤ a))))

zero-twice : (b : ℤ) → is_zero (twice b) ≡ is_zero b
zero-twice (pos zero) = refl
zero-twice (pos (suc n)) =
    ne_eqb (suc n + suc n) 0 (λ e. omega (arith, e)) ∙ sym (ne_eqb (suc n) 0 (λ e. omega (arith, e)))
zero-twice (negsuc n) = refl

pub none-twice : (a b : ℤ) → is_none (twice a) (twice b) ≡ is_none a b
none-twice a b = go (is_zero b) refl
  where
    go : (z : Bool) → is_zero b ≡ z → is_none (twice a) (twice b) ≡ is_none a b
    go true e = rw (zero-twice b, e)
    go false e = rw (zero-twice b, e, twice-quotient a b e)

some_divisor : (a b : ℤ) → is_none a b ≡ false → is_zero b ≡ false
some_divisor a b e = go (is_zero b) e
  where
    go : (z : Bool) → (z || not (fits (quotient a b))) ≡ false → z ≡ false
    go true e = absurd (true≢false e)
    go false e = refl

-- ---- what the code takes of a division is the division of the two numbers' keys
pub divided-keys :
    (code : ℕ) (a b : ℤ) (d : lang.Option (ℕ × ℕ)) → Divides a b d → part_of code d ≡ divided_of code (some (twice a)) (some (twice b))
unfolding divided_of
divided-keys code a b None h = go (eqb code 13) (none-twice a b ∙ none-computed a b h)
  where
    go : (c : Bool) → is_none (twice a) (twice b) ≡ true → none ≡ cond c floor_divide_keys modulus_keys (twice a) (twice b)
    go true e = rw e
    go false e = rw e
divided-keys code a b (Some (q, r)) h =
    let x = exact-computed a b q r h in
    let z = some_divisor a b x.0 in
    go (eqb code 13) (none-twice a b ∙ x.0) (ap twice x.1 ∙ sym (ap twice (twice-quotient a b z)))
    (ap twice x.2 ∙ sym (twice-remainder a b z))
  where
    go : (c : Bool) → is_none (twice a) (twice b) ≡ false → key q ≡ twice (quotient (twice a) (twice b)) →
        key r ≡ remainder (twice a) (twice b) →
        some (key (cond c q r)) ≡ cond c floor_divide_keys modulus_keys (twice a) (twice b)
    go true e f g = rw e (ap some f)
    go false e f g = rw e (ap some g)
