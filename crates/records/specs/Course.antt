-- Answers for numbers, each from the answers below it: the scheme of the tree count, of the columns a record reaches,
-- and of a record's truth. It has no fuel: the answer of n is `f` of the answers below n, and whatever is not below is `z`'s.
use Rattle.std.specs.Prelude.{ℕ, zero, suc, cond, eqb}

module _ {A : Type 0} (z : ℕ → A) (f : (ℕ → A) → ℕ → A) where
  -- the answers below n; at n and above the answer is z's
  unfoldable pub up_to : ℕ → ℕ → A
  up_to zero a = z a
  up_to (suc n) a = cond (eqb a n) (f (λ i. up_to n i) n) (up_to n a)

  -- the answer of n
  unfoldable pub course : ℕ → A
  course n = up_to (suc n) n
