-- The null marks of a row that are above its columns.
-- Assumes nothing.
use mathlib.Core.Path.{◌≡◌}
use mathlib.Core.Logic.{⊎_elim}
use Prim.Native.Nat.{ℕ, ◌*◌, ◌/◌, ◌<◌, ◌≤◌, ◌^◌}
use native.Mathlib.Nat.{div-eq_of_lt, div-lt_iff_lt-mul, one-mul}
use native.Mathlib.Omega.{arith}
use lib.Dec.{ltb, eqb}
use lib.Pow.{pow_pos}
use borrow.Author.Tests.{lt-ltb, le-ltb, ne_eqb}
use Rattle.truth.proofs.Keys.{lt-or_le}

-- Nothing is left of x above bit k exactly if x is below 2 ^ k.
pub nothing_above : (x k : ℕ) → eqb (x / 2 ^ k) 0 ≡ ltb x (2 ^ k)
nothing_above x k =
    ⊎_elim
    (λ (h : x < 2 ^ k). rw (div-eq_of_lt h, lt-ltb x (2 ^ k) h))
    (λ (h : 2 ^ k ≤ x). rw (le-ltb x (2 ^ k) h) (ne_eqb (x / 2 ^ k) 0 (some_left h)))
    (lt-or_le x (2 ^ k))
  where
    some_left : 2 ^ k ≤ x → x / 2 ^ k ≡ 0 → ⊥
    some_left h e =
        let l : x / 2 ^ k < 1 = omega arith in
        let b : x < 1 * 2 ^ k = (div-lt_iff_lt-mul (pow_pos k)).0 l in
        let c : x < 2 ^ k = rw one-mul at b in
        omega arith
