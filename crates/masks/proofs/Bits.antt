-- Bits of words: those of And, Xor and the inverse, and those of a word that is put together bit by bit.
-- Assumes nothing.
use mathlib.Core.Path.{◌≡◌, refl, sym, ◌∙◌, ap}
use mathlib.Core.Bool.{Bool, true, false, cond, not, ◌&&◌, ◌||◌, or-false}
use Prim.Native.Nat.{ℕ, zero, suc, ◌+◌, ◌*◌, ◌/◌, ◌%◌, ◌^◌, ◌≤◌, ◌<◌, min}
use native.Mathlib.Omega.{arith}
use native.Mathlib.Numerals.{add-one}
use lib.Bits.{bit_and, bit_or, bit_xor, differ, and_step, and_shr, xor_step, xor_shr}
use lib.Dec.{eqb}
use borrow.Author.Tests.{eq-eqb, ne_eqb, eqb-true, eqb-false}
use Rattle.records.specs.Bytes.{all}
use Rattle.records.proofs.Loops.{all_holds}
use Rattle.records.proofs.Laws.{by-test}
use Rattle.checking.specs.Columns.{bit}
use Rattle.checking.proofs.Bits.{bit-or, bit-pow, bit-zero}
use Rattle.masks.specs.Masks.{inverse, mask_to}

and_low : (u v : ℕ) → bit_and u v % 2 ≡ min (u % 2) (v % 2)
and_low u v = rw (and_step u v) (omega arith)

and_digit : (p q : ℕ) → p < 2 → q < 2 → eqb (min p q) 1 ≡ (eqb p 1 && eqb q 1)
and_digit zero zero h k = refl
and_digit zero (suc zero) h k = refl
and_digit (suc zero) zero h k = refl
and_digit (suc zero) (suc zero) h k = refl
and_digit (suc (suc p)) q h k = absurd (omega arith)
and_digit zero (suc (suc q)) h k = absurd (omega arith)
and_digit (suc zero) (suc (suc q)) h k = absurd (omega arith)

pub bit-and : (x y j : ℕ) → bit (bit_and x y) j ≡ (bit x j && bit y j)
bit-and x y j =
    rw (and_shr x y j, and_low (x / 2 ^ j) (y / 2 ^ j))
    (and_digit (x / 2 ^ j % 2) (y / 2 ^ j % 2) (omega arith) (omega arith))

-- exactly one of two
abbrev pub either : Bool → Bool → Bool
either true b = not b
either false b = b

xor_digit : (a p q : ℕ) → p < 2 → q < 2 → eqb ((a * 2 + differ p q) % 2) 1 ≡ either (eqb p 1) (eqb q 1)
xor_digit a zero zero h k = rw (even a)
  where
    even : (a : ℕ) → (a * 2 + 0) % 2 ≡ 0
    even a = omega arith
xor_digit a zero (suc zero) h k = rw (odd a)
  where
    odd : (a : ℕ) → (a * 2 + 1) % 2 ≡ 1
    odd a = omega arith
xor_digit a (suc zero) zero h k = rw (odd a)
  where
    odd : (a : ℕ) → (a * 2 + 1) % 2 ≡ 1
    odd a = omega arith
xor_digit a (suc zero) (suc zero) h k = rw (even a)
  where
    even : (a : ℕ) → (a * 2 + 0) % 2 ≡ 0
    even a = omega arith
xor_digit a (suc (suc p)) q h k = absurd (omega arith)
xor_digit a zero (suc (suc q)) h k = absurd (omega arith)
xor_digit a (suc zero) (suc (suc q)) h k = absurd (omega arith)

pub bit-xor : (x y j : ℕ) → bit (bit_xor x y) j ≡ either (bit x j) (bit y j)
bit-xor x y j =
    rw (xor_shr x y j, xor_step (x / 2 ^ j) (y / 2 ^ j))
    (xor_digit (bit_xor (x / 2 ^ j / 2) (y / 2 ^ j / 2)) (x / 2 ^ j % 2) (y / 2 ^ j % 2) (omega arith) (omega arith))

all_ones : all (λ i. bit 18446744073709551615 i) 64 ≡ true
unfolding all
all_ones = refl

either_true : (b : Bool) → either b true ≡ not b
either_true true = refl
either_true false = refl

pub bit-inverse : (x j : ℕ) → j < 64 → bit (inverse x) j ≡ not (bit x j)
bit-inverse x j h =
    bit-xor x 18446744073709551615 j ∙ ap (either (bit x j)) (all_holds (λ i. bit 18446744073709551615 i) j 64 h all_ones)
    ∙ either_true (bit x j)

pub mask_none : (f : ℕ → Bool) → 0 ≡ mask_to f 0
unfolding mask_to
mask_none f = refl

pub mask_more : (f : ℕ → Bool) (i m r : ℕ) → m ≡ mask_to f i → r ≡ cond (f i) (bit_or m (2 ^ i)) m → r ≡ mask_to f (i + 1)
unfolding mask_to
mask_more f i m r e er = er ∙ rw (add-one, e)

-- one more bit
put : (b c d : Bool) (m n j : ℕ) → bit m j ≡ c → eqb n j ≡ d → bit (cond b (bit_or m (2 ^ n)) m) j ≡ (c || (d && b))
put true c true m n j e g = rw (bit-or m (2 ^ n) j, bit-pow n j, e, g)
put true c false m n j e g = rw (bit-or m (2 ^ n) j, bit-pow n j, e, g)
put false c true m n j e g = e ∙ sym (or-false c)
put false c false m n j e g = e ∙ sym (or-false c)

above : (f : ℕ → Bool) (n j : ℕ) → n ≤ j → bit (mask_to f n) j ≡ false
unfolding mask_to
above f zero j h = bit-zero j
above f (suc n) j h =
    put (f n) false false (mask_to f n) n j (above f n j (omega arith)) (ne_eqb n j (λ e. omega (arith, e)))

-- bit j of the word says whether j, below n, has the mark
pub mask_bit : (f : ℕ → Bool) (n j : ℕ) → j < n → bit (mask_to f n) j ≡ f j
unfolding mask_to
mask_bit f zero j h = absurd (omega arith)
mask_bit f (suc n) j h = by-test (eqb j n) same (other (λ l. mask_bit f n j l))
  where
    same : eqb j n ≡ true → bit (cond (f n) (bit_or (mask_to f n) (2 ^ n)) (mask_to f n)) j ≡ f j
    same e =
        let q : j ≡ n = eqb-true j n e in
        put (f n) false true (mask_to f n) n j (above f n j (omega (arith, q))) (eq-eqb n j (sym q)) ∙ ap f (sym q)

    other : (j < n → bit (mask_to f n) j ≡ f j) → eqb j n ≡ false
        → bit (cond (f n) (bit_or (mask_to f n) (2 ^ n)) (mask_to f n)) j ≡ f j
    other below e =
        let d : (j ≡ n → ⊥) = eqb-false j n e in
        put (f n) (f j) false (mask_to f n) n j (below (omega (arith, d))) (ne_eqb n j (λ q. d (sym q)))
        ∙ or-false (f j)
