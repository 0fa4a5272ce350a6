-- The lists that the words of the lent table stand for, read place by place.
use mathlib.Core.Path.{◌≡◌, refl, sym, ◌∙◌, ap}
use mathlib.Core.Bool.{true, false, ◌||◌}
use mathlib.Core.List.{List, [], ◌∷◌}
use Prim.Native.Nat.{ℕ, zero, suc, ◌+◌, ◌*◌, ◌/◌, ◌%◌, ◌≤◌, ◌<◌}
use native.Mathlib.Omega.{arith}
use lib.Dec.{eqb}
use lib.ListN.{length, get_or}
use Rattle.column_constraints.specs.Abstraction.{each, list_in, kinds_in, values_in, starts_in, counts_in}

-- A read of a list is one of what is behind its first two.
behind : (w k : ℕ) (l : List ℕ) (j : ℕ) → get_or (w ∷ k ∷ l) (2 * suc j) 0 ≡ get_or l (2 * j) 0
behind w k l j =
    let e : 2 * suc j ≡ suc (suc (2 * j)) = omega arith in
    ap (λ i. get_or (w ∷ k ∷ l) i 0) e

behind-next : (w k : ℕ) (l : List ℕ) (j : ℕ) → get_or (w ∷ k ∷ l) (2 * suc j + 1) 0 ≡ get_or l (2 * j + 1) 0
behind-next w k l j =
    let e : 2 * suc j + 1 ≡ suc (suc (2 * j + 1)) = omega arith in
    ap (λ i. get_or (w ∷ k ∷ l) i 0) e

module _ (f : ℕ → ℕ → ℕ) where
  pub each_in : (t : List ℕ) (j : ℕ) → 2 * j + 1 < length t
      → get_or (each f t) j 0 ≡ f (get_or t (2 * j) 0) (get_or t (2 * j + 1) 0)
  unfolding each
  each_in [] j h = absurd (omega (arith, h))
  each_in (w ∷ []) j h = absurd (omega (arith, h))
  each_in (w ∷ k ∷ l) zero h = refl
  each_in (w ∷ k ∷ l) (suc j) h =
      each_in l j (omega (arith, h)) ∙ rw (behind w k l j, behind-next w k l j)

  pub each-past : (t : List ℕ) (j : ℕ) → length t ≤ 2 * j + 1 → get_or (each f t) j 0 ≡ 0
  unfolding each
  each-past [] j h = refl
  each-past (w ∷ []) j h = refl
  each-past (w ∷ k ∷ l) zero h = absurd (omega (arith, h))
  each-past (w ∷ k ∷ l) (suc j) h = each-past l j (omega (arith, h))

  -- What is given at a place is by its words alone.
  pub each-kept : (s t : List ℕ) (j : ℕ) → j < length s / 2 → j < length t / 2 → get_or s (2 * j) 0 ≡ get_or t (2 * j) 0
      → get_or s (2 * j + 1) 0 ≡ get_or t (2 * j + 1) 0 → get_or (each f s) j 0 ≡ get_or (each f t) j 0
  each-kept s t j hs ht ew ek =
      each_in s j (omega (arith, hs)) ∙ ap (λ w. f w (get_or s (2 * j + 1) 0)) ew ∙ ap (λ k. f (get_or t (2 * j) 0) k) ek
      ∙ sym (each_in t j (omega (arith, ht)))

  -- Lists of as many words that give the same at each place.
  pub each_same : (s t : List ℕ) → length s ≡ length t
      → ((j : ℕ) → 2 * j + 1 < length s
      → f (get_or s (2 * j) 0) (get_or s (2 * j + 1) 0) ≡ f (get_or t (2 * j) 0) (get_or t (2 * j + 1) 0))
      → each f s ≡ each f t
  unfolding each
  each_same [] [] e h = refl
  each_same [] (w ∷ t) e h = absurd (omega (arith, e))
  each_same (v ∷ s) [] e h = absurd (omega (arith, e))
  each_same (v ∷ []) (w ∷ []) e h = refl
  each_same (v ∷ []) (w ∷ k ∷ t) e h = absurd (omega (arith, e))
  each_same (v ∷ j ∷ s) (w ∷ []) e h = absurd (omega (arith, e))
  each_same (v ∷ j ∷ s) (w ∷ k ∷ t) e h =
      ap (λ x. x ∷ each f s) (h 0 (omega arith)) ∙ ap (λ l. f w k ∷ l) (each_same s t (omega (arith, e))
      (λ i b. rw (← behind v j s i, ← behind-next v j s i, ← behind w k t i, ← behind-next w k t i) (h (suc i) (omega (arith, b)))))

  -- A part of what each gives.
  each_after : (g : ℕ → ℕ) → g 0 ≡ 0 → (t : List ℕ) (j : ℕ)
      → g (get_or (each f t) j 0) ≡ get_or (each (λ w k. g (f w k)) t) j 0
  unfolding each
  each_after g z [] j = z
  each_after g z (w ∷ []) j = z
  each_after g z (w ∷ k ∷ l) zero = refl
  each_after g z (w ∷ k ∷ l) (suc j) = each_after g z l j

-- ---- What a read is, within the table and past its end.
pub kind-read : (t : List ℕ) (j : ℕ) → j < length t / 2 → get_or t (2 * j + 1) 0 ≡ get_or (kinds_in t) j 0
unfolding kinds_in
kind-read t j h = sym (each_in (λ w k. k) t j (omega (arith, h)))

pub kind-past : (t : List ℕ) (j : ℕ) → length t / 2 ≤ j → 0 ≡ get_or (kinds_in t) j 0
unfolding kinds_in
kind-past t j h = sym (each-past (λ w k. k) t j (omega (arith, h)))

pub value_read : (t : List ℕ) (j : ℕ) → j < length t / 2 → get_or t (2 * j) 0 ≡ get_or (values_in t) j 0
unfolding values_in
value_read t j h = sym (each_in (λ w k. w) t j (omega (arith, h)))

pub value-past : (t : List ℕ) (j : ℕ) → length t / 2 ≤ j → 0 ≡ get_or (values_in t) j 0
unfolding values_in
value-past t j h = sym (each-past (λ w k. w) t j (omega (arith, h)))

list_read : (t : List ℕ) (j : ℕ) → j < length t / 2
    → list_in (get_or t (2 * j) 0) (get_or t (2 * j + 1) 0) ≡ get_or (each list_in t) j 0
list_read t j h = sym (each_in list_in t j (omega (arith, h)))

pub list_held : (t : List ℕ) (j : ℕ) → j < length t / 2
    → (eqb (get_or t (2 * j + 1) 0) 1 || eqb (get_or t (2 * j + 1) 0) 2) ≡ true → get_or t (2 * j) 0 ≡ get_or (each list_in t) j 0
list_held t j h e = rw e at (list_read t j h)

pub list-none : (t : List ℕ) (j : ℕ) → j < length t / 2
    → (eqb (get_or t (2 * j + 1) 0) 1 || eqb (get_or t (2 * j + 1) 0) 2) ≡ false → 0 ≡ get_or (each list_in t) j 0
list-none t j h e = rw e at (list_read t j h)

pub list-past : (t : List ℕ) (j : ℕ) → length t / 2 ≤ j → 0 ≡ get_or (each list_in t) j 0
list-past t j h = sym (each-past list_in t j (omega (arith, h)))

pub start-read : (t : List ℕ) (j : ℕ) → get_or (each list_in t) j 0 % 4294967296 ≡ get_or (starts_in t) j 0
unfolding starts_in
start-read t j = each_after list_in (λ x. x % 4294967296) refl t j

pub count-read : (t : List ℕ) (j : ℕ) → get_or (each list_in t) j 0 / 4294967296 ≡ get_or (counts_in t) j 0
unfolding counts_in
count-read t j = each_after list_in (λ x. x / 4294967296) refl t j
