-- Laws of answers by course of values.
use mathlib.Core.Path.{◌≡◌, refl, sym, ◌∙◌, ap, subst}
use mathlib.Core.Bool.{Bool, true, false, cond}
use Prim.Native.Nat.{ℕ, zero, suc, ◌≤◌, ◌<◌}
use native.Mathlib.Omega.{arith}
use lib.Dec.{eqb}
use borrow.Author.Tests.{eqb-true, eqb-false, eq-eqb}
use Rattle.records.specs.Course.{up_to, course}

module _ {A : Type 0} (z : ℕ → A) (f : (ℕ → A) → ℕ → A) where
  pub course-top : (n : ℕ) → course z f n ≡ f (λ i. up_to z f n i) n
  unfolding up_to course
  course-top n = ap (λ b. cond b (f (λ i. up_to z f n i) n) (up_to z f n n)) (eq-eqb n n refl)

  pub up_to-below : (n a : ℕ) → a < n → up_to z f n a ≡ course z f a
  unfolding up_to course
  up_to-below zero a h = absurd (omega arith)
  up_to-below (suc n) a h = go (eqb a n) refl (λ k. up_to-below n a k)
    where
      go : (b : Bool) → eqb a n ≡ b → (a < n → up_to z f n a ≡ course z f a) → cond b (f (λ i. up_to z f n i) n) (up_to z f n a) ≡ course z f a
      go true e ih = subst (λ m. f (λ i. up_to z f m i) m ≡ course z f a) (eqb-true a n e) (sym (course-top a))
      go false e ih = let d : (a ≡ n → ⊥) = eqb-false a n e in ih (omega (arith, d))

  pub up_to-off : (n a : ℕ) → n ≤ a → up_to z f n a ≡ z a
  unfolding up_to
  up_to-off zero a h = refl
  up_to-off (suc n) a h = go (eqb a n) refl (λ k. up_to-off n a k)
    where
      go : (b : Bool) → eqb a n ≡ b → (n ≤ a → up_to z f n a ≡ z a) → cond b (f (λ i. up_to z f n i) n) (up_to z f n a) ≡ z a
      go true e ih = let p : a ≡ n = eqb-true a n e in absurd (omega arith)
      go false e ih = ih (omega arith)

  -- the equation, where the answer at n depends on lower answers only
  pub course-law : (n : ℕ) → ((C D : ℕ → A) → ((a : ℕ) → a < n → C a ≡ D a) → f C n ≡ f D n) → course z f n ≡ f (λ i. course z f i) n
  course-law n h = course-top n ∙ h (λ i. up_to z f n i) (λ i. course z f i) (λ a k. up_to-below n a k)

-- a map h carries the answers of one rule to those of another that steps alike at the numbers below u
module _ {A B : Type 0} (h : A → B) (z : ℕ → A) (w : ℕ → B) (f : (ℕ → A) → ℕ → A) (g : (ℕ → B) → ℕ → B) (u : ℕ)
    (start : (a : ℕ) → h (z a) ≡ w a)
    (same : (n : ℕ) → n < u → (C : ℕ → A) (D : ℕ → B) → ((a : ℕ) → h (C a) ≡ D a) → h (f C n) ≡ g D n) where
  pub up_to-map : (n : ℕ) → n ≤ u → (a : ℕ) → h (up_to z f n a) ≡ up_to w g n a
  unfolding up_to
  up_to-map zero l a = start a
  up_to-map (suc n) l a = go (eqb a n) (λ i. up_to-map n (omega arith) i)
    where
      go : (b : Bool) → ((i : ℕ) → h (up_to z f n i) ≡ up_to w g n i)
          → h (cond b (f (λ i. up_to z f n i) n) (up_to z f n a)) ≡ cond b (g (λ i. up_to w g n i) n) (up_to w g n a)
      go true ih = same n (omega arith) (λ i. up_to z f n i) (λ i. up_to w g n i) ih
      go false ih = ih a

  pub course-map : (n : ℕ) → n < u → h (course z f n) ≡ course w g n
  unfolding course
  course-map n l = up_to-map (suc n) (omega arith) n

-- two rules that agree at the numbers below u give the same answers there
module _ {A : Type 0} (z : ℕ → A) (f g : (ℕ → A) → ℕ → A) (u : ℕ)
    (same : (n : ℕ) → n < u → (C D : ℕ → A) → ((a : ℕ) → C a ≡ D a) → f C n ≡ g D n) where
  pub up_to-agree : (n : ℕ) → n ≤ u → (a : ℕ) → up_to z f n a ≡ up_to z g n a
  up_to-agree = up_to-map (λ x. x) z z f g u (λ a. refl) same

  pub course-agree : (n : ℕ) → n < u → course z f n ≡ course z g n
  course-agree = course-map (λ x. x) z z f g u (λ a. refl) same
