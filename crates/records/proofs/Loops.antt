-- What a loop that counts i up to n has shown of `all p` and `first f`: one law to go on, one for the early return, one for the end.
-- Assumes nothing.
use mathlib.Core.Path.{◌≡◌, refl, sym, subst, ◌∙◌}
use mathlib.Core.Logic.{⊎_elim}
use mathlib.Core.Bool.{Bool, true, false, not, and-false}
use Prim.Native.Nat.{ℕ, zero, suc, ◌+◌, ◌≤◌, ◌<◌}
use native.Mathlib.Nat.{le_of_suc-le-suc, not-suc-le-zero, eq-or-lt_of_le, le_antisymm}
use native.Mathlib.Numerals.{add-one}
use borrow.Author.Tests.{ne_eqb, not-true, not-false}
use Rattle.records.specs.Bytes.{all, first}
use Rattle.records.proofs.Laws.{and_left, and_right}

-- the flag r that a callee returned, with its definition x, was tested by `!r`
pub flag_no : {r x : Bool} → r ≡ x → not r ≡ true → x ≡ false
flag_no {r} p q = sym p ∙ not-true r q

pub flag_yes : {r x : Bool} → r ≡ x → not r ≡ false → x ≡ true
flag_yes {r} p q = sym p ∙ not-false r q

pub all_none : (p : ℕ → Bool) → all p 0 ≡ true
unfolding all
all_none p = refl

pub all_more : (p : ℕ → Bool) (i : ℕ) → all p i ≡ true → p i ≡ true → all p (i + 1) ≡ true
unfolding all
all_more p i h e = rw (add-one, h, e)

fails : (p : ℕ → Bool) (i n : ℕ) → i < n → p i ≡ false → all p n ≡ false
unfolding all
fails p i zero l e = absurd (not-suc-le-zero l)
fails p i (suc n) l e =
    ⊎_elim (λ q. rw (← q, e) (and-false (all p i))) (λ k. rw (fails p i n k e)) (eq-or-lt_of_le (le_of_suc-le-suc l))

pub all_fails : (p : ℕ → Bool) (i n : ℕ) → i < n → p i ≡ false → false ≡ all p n
all_fails p i n l e = sym (fails p i n l e)

pub all_done : (p : ℕ → Bool) (i n : ℕ) → i ≤ n → n ≤ i → all p i ≡ true → true ≡ all p n
all_done p i n l g h = subst (λ (k : ℕ). true ≡ all p k) (le_antisymm l g) (sym h)

pub first-none : (f : ℕ → ℕ) → first f 0 ≡ 0
unfolding first
first-none f = refl

pub first_more : (f : ℕ → ℕ) (i : ℕ) → first f i ≡ 0 → f i ≡ 0 → first f (i + 1) ≡ 0
unfolding first
first_more f i h e = rw (add-one, h, e)

found : (f : ℕ → ℕ) (i n : ℕ) → i < n → first f i ≡ 0 → (f i ≡ 0 → ⊥) → first f n ≡ f i
unfolding first
found f i zero l h e = absurd (not-suc-le-zero l)
found f i (suc n) l h e =
    ⊎_elim (λ q. rw (← q, h)) (λ k. rw (found f i n k h e, ne_eqb _ _ e)) (eq-or-lt_of_le (le_of_suc-le-suc l))

pub first_found : (f : ℕ → ℕ) (i n r : ℕ) → i < n → first f i ≡ 0 → r ≡ f i → (r ≡ 0 → ⊥) → r ≡ first f n
first_found f i n r l h d e = d ∙ sym (found f i n l h (λ z. e (d ∙ z)))

pub first_done : (f : ℕ → ℕ) (i n : ℕ) → i ≤ n → n ≤ i → first f i ≡ 0 → 0 ≡ first f n
first_done f i n l g h = subst (λ (k : ℕ). 0 ≡ first f k) (le_antisymm l g) (sym h)

-- what holds of every number below n holds of each
pub all_holds : (p : ℕ → Bool) (i n : ℕ) → i < n → all p n ≡ true → p i ≡ true
unfolding all
all_holds p i zero l h = absurd (not-suc-le-zero l)
all_holds p i (suc n) l h =
    ⊎_elim (λ q. rw q (and_right (all p n) (p n) h)) (λ k. all_holds p i n k (and_left (all p n) (p n) h))
    (eq-or-lt_of_le (le_of_suc-le-suc l))

-- what holds everywhere holds below n
pub all_true : (p : ℕ → Bool) → ((i : ℕ) → p i ≡ true) → (n : ℕ) → all p n ≡ true
unfolding all
all_true p h zero = refl
all_true p h (suc n) = rw (all_true p h n, h n)
