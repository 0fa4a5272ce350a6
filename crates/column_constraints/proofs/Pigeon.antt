-- As many different numbers below m as there are: at most m. Assumes nothing.
use mathlib.Core.Path.{◌≡◌, refl, sym, ◌∙◌}
use mathlib.Core.Logic.{◌⊎◌, ⊎_elim}
use mathlib.Core.Bool.{Bool, true, false, cond, true≢false, or-true}
use mathlib.Core.List.{List}
use Prim.Native.Nat.{ℕ, zero, suc, ◌≤◌, ◌<◌}
use native.Mathlib.Nat.{le_of_suc-le-suc, not-suc-le-zero, eq-or-lt_of_le}
use native.Mathlib.Omega.{arith}
use lib.ListN.{get_or}
use lib.Dec.{eqb}
use borrow.Author.Tests.{eq-eqb, eqb-true}
use Rattle.column_constraints.specs.Abstraction.{marked, Fine}

-- equal or not, and the test says so
pub data Eq (a b : ℕ) : Bool → Type 0 where
  yes : a ≡ b → Eq a b true
  no : (a ≡ b → ⊥) → Eq a b false

pub eq-view : (a b : ℕ) → Eq a b (eqb a b)
eq-view a b = go (eqb a b) refl
  where
    go : (x : Bool) → eqb a b ≡ x → Eq a b x
    go true e = yes (eqb-true a b e)
    go false e = no (λ p. true≢false (sym (eq-eqb a b p) ∙ e))

pigeon : (m n : ℕ) (f : ℕ → ℕ) → ((i : ℕ) → i < n → f i < m) → ((i j : ℕ) → i < j → j < n → f i ≡ f j → ⊥) → n ≤ m
pigeon zero zero f b d = omega arith
pigeon zero (suc n) f b d = absurd (not-suc-le-zero (b 0 (omega arith)))
pigeon (suc m) zero f b d = omega arith
pigeon (suc m) (suc n) f b d =
    let h : n ≤ m = pigeon m n (λ i. cond (eqb (f i) m) (f n) (f i)) low apart in
    omega arith
  where
    low : (i : ℕ) → i < n → cond (eqb (f i) m) (f n) (f i) < m
    low i l = go (eq-view (f i) m)
      where
        go : {x : Bool} → Eq (f i) m x → cond x (f n) (f i) < m
        go (yes p) =
            let h = b n (omega arith) in
            let k : (f n ≡ m → ⊥) = (λ e. d i n l (omega arith) (p ∙ sym e)) in
            omega (arith, h, k)
        go (no p) = let h = b i (omega arith) in omega (arith, h, p)

    apart : (i j : ℕ) → i < j → j < n → cond (eqb (f i) m) (f n) (f i) ≡ cond (eqb (f j) m) (f n) (f j) → ⊥
    apart i j l k = go (eq-view (f i) m) (eq-view (f j) m)
      where
        go : {x y : Bool} → Eq (f i) m x → Eq (f j) m y → cond x (f n) (f i) ≡ cond y (f n) (f j) → ⊥
        go (yes p) (yes q) e = d i j l (omega arith) (p ∙ sym q)
        go (yes p) (no q) e = d j n k (omega arith) (sym e)
        go (no p) (yes q) e = d i n (omega arith) (omega arith) e
        go (no p) (no q) e = d i j l (omega arith) e

-- one of the first n is one of them
pub marked-at : (a : List ℕ) (i n j : ℕ) → i < n → get_or a i 0 ≡ j → marked a n j ≡ true
unfolding marked
marked-at a i zero j l e = absurd (not-suc-le-zero l)
marked-at a i (suc n) j l e = ⊎_elim (λ q. rw (← q, eq-eqb _ _ e) (or-true (marked a i j)))
    (λ k. rw (marked-at a i n j k e)) (eq-or-lt_of_le (le_of_suc-le-suc l))

pub few : (m : ℕ) (a : List ℕ) (n : ℕ) → Fine m a n → n ≤ m
few m a n h = pigeon m n (λ i. get_or a i 0) (λ i l. (h i l).0)
    (λ i j l k e. true≢false (sym (marked-at a i j (get_or a j 0) l e) ∙ (h j k).1))

-- a new number finds room
pub room : (m : ℕ) (a : List ℕ) (n j : ℕ) → Fine m a n → j < m → marked a n j ≡ false → n < m
room m a n j h l e = pigeon m (suc n) f low apart
  where
    f : ℕ → ℕ
    f i = cond (eqb i n) j (get_or a i 0)

    low : (i : ℕ) → i < suc n → f i < m
    low i k = go (eq-view i n)
      where
        go : {x : Bool} → Eq i n x → cond x j (get_or a i 0) < m
        go (yes p) = l
        go (no p) = (h i (omega (arith, p, k))).0

    apart : (i k : ℕ) → i < k → k < suc n → f i ≡ f k → ⊥
    apart i k p q = go (eq-view i n) (eq-view k n)
      where
        go : {x y : Bool} → Eq i n x → Eq k n y → cond x j (get_or a i 0) ≡ cond y j (get_or a k 0) → ⊥
        go (yes u) v w = absurd (omega (arith, u, p, q))
        go (no u) (yes v) w = true≢false (sym (marked-at a i n j (omega (arith, p, v)) w) ∙ e)
        go (no u) (no v) w = true≢false (sym (marked-at a i k (get_or a k 0) p w) ∙ (h k (omega (arith, q, v))).1)
