-- A table filled from entry 0 up: what a turn of the loop adds.
use mathlib.Core.Path.{◌≡◌, sym, ◌∙◌, subst}
use mathlib.Core.Bool.{true, false}
use mathlib.Core.List.{List}
use Prim.Native.Nat.{ℕ, ◌+◌, ◌<◌}
use native.Mathlib.Omega.{arith}
use lib.ListN.{length, get_or, set}
use lib.Seq.{get_or-set_same, get_or-set_other}
use lib.Dec.{eqb}
use borrow.Author.Tests.{eqb-true, eqb-false}
use Rattle.records.proofs.Laws.{by-test}

-- the entries below n are g's
abbrev pub Filled : (ℕ → ℕ) → List ℕ → ℕ → Type 0
Filled g l n = (a : ℕ) → a < n → get_or l a 0 ≡ g a

pub filled_none : (g : ℕ → ℕ) (l : List ℕ) → Filled g l 0
filled_none g l a h = absurd (omega arith)

pub filled_more : (g : ℕ → ℕ) (l : List ℕ) (n v : ℕ) → n < length l → Filled g l n → v ≡ g n
    → Filled g (set l n v) (n + 1)
filled_more g l n v h f e a k = by-test (eqb a n) same other
  where
    same : eqb a n ≡ true → get_or (set l n v) a 0 ≡ g a
    same p =
        subst (λ b. get_or (set l n v) b 0 ≡ g b) (sym (eqb-true a n p)) (get_or-set_same l n v 0 h ∙ e)

    other : eqb a n ≡ false → get_or (set l n v) a 0 ≡ g a
    other p =
        let d : (a ≡ n → ⊥) = eqb-false a n p in get_or-set_other l n a v 0 d ∙ f a (omega (arith, d))
