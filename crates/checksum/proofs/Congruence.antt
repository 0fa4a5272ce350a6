-- Numbers that fold to the same sixteen bits. Each law stands once, over the width: a number is congruent to the sum of its
-- 16-bit digits modulo 65,535, however many they are (`digit_sum`); swapping the bytes of each multiplies the sum by 256
-- (`swapped_sum`); and sixteen bits are determined by that and by being zero only for zero (`determined`).
-- Assumes nothing.
use Prim.Native.Nat.{ℕ, zero, suc, ◌+◌, ◌*◌, ◌≤◌}
use mathlib.Core.Path.{◌≡◌, refl, sym, subst}
use mathlib.Core.List.{List, [], ◌∷◌}
use native.Mathlib.Omega.{arith}

-- congruent modulo 65,535, and zero together
pub record Same (n m : ℕ) : Type 0 where
  pub less : ℕ
  pub more : ℕ
  pub congruent : n + 65535 * less ≡ m + 65535 * more
  pub forth : n ≡ 0 → m ≡ 0
  pub back : m ≡ 0 → n ≡ 0

pub same : (n : ℕ) → Same n n
same n = record { less = 0; more = 0; congruent = refl; forth = λ e. e; back = λ e. e }

pub same-sym : (n m : ℕ) → Same n m → Same m n
same-sym n m s =
    record { less = s.more; more = s.less; congruent = sym s.congruent; forth = s.back; back = s.forth }

pub same-trans : (n m k : ℕ) → Same n m → Same m k → Same n k
same-trans n m k s t =
    record {
      less = s.less + t.less;
      more = s.more + t.more;
      congruent = omega (arith, s.congruent, t.congruent);
      forth = λ e. t.forth (s.forth e);
      back = λ e. s.back (t.back e);
    }

pub same_add : (a b c d : ℕ) → Same a b → Same c d → Same (a + c) (b + d)
same_add a b c d s t =
    record {
      less = s.less + t.less;
      more = s.more + t.more;
      congruent = omega (arith, s.congruent, t.congruent);
      forth = λ e. let x = s.forth (omega arith) in let y = t.forth (omega arith) in omega (arith, x, y);
      back = λ e. let x = s.back (omega arith) in let y = t.back (omega arith) in omega (arith, x, y);
    }

pub same-times : (a b : ℕ) → Same a b → Same (256 * a) (256 * b)
same-times a b s =
    record {
      less = 256 * s.less;
      more = 256 * s.more;
      congruent = omega (arith, s.congruent);
      forth = λ e. let x = s.forth (omega arith) in omega (arith, x);
      back = λ e. let x = s.back (omega arith) in omega (arith, x);
    }

-- the number with the digits l, the lowest first
unfoldable pub number : List ℕ → ℕ
number [] = 0
number (d ∷ l) = d + 65536 * number l

unfoldable pub total : List ℕ → ℕ
total [] = 0
total (d ∷ l) = d + total l

digits_same : (l : List ℕ) → Same (total l) (number l)
unfolding number total
digits_same [] = same 0
digits_same (d ∷ l) =
    let s = digits_same l in
    record {
      less = s.less + number l;
      more = s.more;
      congruent = omega (arith, s.congruent);
      forth = λ e. let x = s.forth (omega arith) in omega (arith, x);
      back = λ e. let x = s.back (omega arith) in omega (arith, x);
    }

-- a number of any width and the sum of its digits
pub digit_sum : (l : List ℕ) (n m : ℕ) → total l ≡ n → number l ≡ m → Same n m
digit_sum l n m t e = subst (λ x. Same x m) t (subst (Same (total l)) e (digits_same l))

-- f 0 + f 1 + .. + f (n - 1)
unfoldable pub sum_to : (ℕ → ℕ) → ℕ → ℕ
sum_to f zero = 0
sum_to f (suc n) = sum_to f n + f n

-- a digit of the bytes low and high, swapped: 256 times the digit has the digits 256 * low and high
pub swap_digit : (low high : ℕ) → Same (256 * low + high) (256 * (low + 256 * high))
unfolding number total
swap_digit low high = digit_sum (256 * low ∷ high ∷ []) _ _ (omega arith) (omega arith)

-- any number of digits, each with its bytes swapped
pub swapped_sum : (low high : ℕ → ℕ) (n : ℕ)
    → Same (sum_to (λ k. 256 * low k + high k) n) (256 * sum_to (λ k. low k + 256 * high k) n)
unfolding sum_to
swapped_sum low high zero = same 0
swapped_sum low high (suc n) =
    let s = same_add _ _ _ _ (swapped_sum low high n) (swap_digit (low n) (high n)) in
    record {
      less = s.less;
      more = s.more;
      congruent = omega (arith, s.congruent);
      forth = λ e. let x = s.forth e in omega (arith, x);
      back = λ e. let x = s.back (omega arith) in omega (arith, x);
    }

pub determined : (n m : ℕ) → n ≤ 65535 → m ≤ 65535 → Same n m → n ≡ m
determined zero m h g s = sym (s.forth refl)
determined (suc n) zero h g s = s.back refl
determined (suc n) (suc m) h g s = omega (arith, s.congruent)
