-- Sizes that the choice of the index reckons with. Assumes nothing.
use mathlib.Core.Path.{◌≡◌, refl}
use mathlib.Core.Bool.{Bool}
use mathlib.Core.List.{List}
use mathlib.Core.Logic.{⊎_elim}
use Prim.Native.Nat.{ℕ, zero, suc, ◌+◌, ◌*◌, ◌≤◌, ◌<◌}
use native.Mathlib.Omega.{arith}
use native.Mathlib.Nat.{eq-or-lt_of_le, mul-le-mul_right}
use lib.ListN.{length, get_or, replicate}
use Rattle.column_sets.specs.Index.{Indexed}

-- one list more ends early
pub ends_more : (ss cs : List ℕ) (places j s c : ℕ) → s ≡ get_or ss j 0 → c ≡ get_or cs j 0 → s + c ≤ places →
    ((i : ℕ) → i < j → get_or ss i 0 + get_or cs i 0 ≤ places) → (i : ℕ) → i < j + 1 → get_or ss i 0 + get_or cs i 0 ≤ places
ends_more ss cs places j s c es ec h k i l = ⊎_elim (λ (e : i ≡ j). rw e (rw (← es, ← ec) h)) (λ (m : i < j). k i m)
    (eq-or-lt_of_le (let n : i ≤ j = omega arith in n))

pub work_bound : (lists total : ℕ) → lists ≤ 128 → total ≤ 2097152 →
    (lists * total ≤ 268435456) × (lists * total < 18446744073709551616)
work_bound lists total h k =
    let b : lists * total ≤ 128 * total = mul-le-mul_right total h in (omega arith, omega arith)

pub product_fits : (work e : ℕ) → work ≤ 268435456 → e ≤ 128 → work * e < 18446744073709551616
product_fits work e h k = let b : work * e ≤ 268435456 * e = mul-le-mul_right e h in omega arith

-- an index of one word covers nothing
pub no_index : (told ps index : List ℕ) → length index ≡ 1 → Indexed told ps index
no_index told ps index h = record {
  some = omega arith;
  room = λ p l. absurd (omega arith);
  lists = λ p j l k m. absurd (omega arith);
}

pub zero-array : (n q : ℕ) → ◌≡◌ {A = ℕ} (get_or (replicate n 0) q 0) 0
zero-array zero q = refl
zero-array (suc n) zero = refl
zero-array (suc n) (suc q) = zero-array n q
