-- The kinds of one table put into another, conjunct by conjunct.
use mathlib.Core.Path.{◌≡◌, refl, sym, ◌∙◌}
use mathlib.Core.Bool.{true, false}
use mathlib.Core.List.{List}
use mathlib.Core.Logic.{◌⊎◌, ⊎_elim}
use Prim.Native.Nat.{ℕ, ◌+◌, ◌*◌, ◌≤◌, ◌<◌}
use native.Mathlib.Omega.{arith}
use lib.Dec.{eqb}
use lib.ListN.{length, get_or, set, length-set}
use lib.Seq.{get_or-set_same, get_or-set_other}
use borrow.Author.Tests.{eqb-true, eqb-false}
use Rattle.records.proofs.Laws.{by-test}
use Rattle.checking.proofs.Bits.{lt-or_le}
use Rattle.column_constraints.specs.Abstraction.{kinds_in, values_in}
use Rattle.column_constraints.proofs.Words.{each_same}

-- Of the first j conjuncts the kinds are taken from `told`; all else is as it was.
pub record Taken (told old bits : List ℕ) (j : ℕ) : Type 0 where
  pub size : length bits ≡ length old
  pub words : (m : ℕ) → get_or bits (2 * m) 0 ≡ get_or old (2 * m) 0
  pub taken : (m : ℕ) → m < j → get_or bits (2 * m + 1) 0 ≡ get_or told (2 * m + 1) 0
  pub left : (m : ℕ) → j ≤ m → get_or bits (2 * m + 1) 0 ≡ get_or old (2 * m + 1) 0

pub taken_none : (told old : List ℕ) → Taken told old old 0
taken_none told old = record {
  size = refl;
  words = λ m. refl;
  taken = λ m h. absurd (omega (arith, h));
  left = λ m h. refl;
}

pub taken_more : (told old bits : List ℕ) (j : ℕ) → 2 * j + 1 < length bits → Taken told old bits j
    → Taken told old (set bits (2 * j + 1) (get_or told (2 * j + 1) 0)) (j + 1)
taken_more told old bits j l T = record {
  size = length-set bits (2 * j + 1) k ∙ T.size;
  words = λ m. get_or-set_other bits (2 * j + 1) (2 * m) k 0 (λ z. omega (arith, z)) ∙ T.words m;
  taken = λ m h. by-test (eqb m j) (λ e. here m (eqb-true m j e)) (λ e. there m h (eqb-false m j e));
  left = λ m h. get_or-set_other bits (2 * j + 1) (2 * m + 1) k 0 (λ z. omega (arith, z, h)) ∙ T.left m (omega (arith, h));
}
  where
    k : ℕ
    k = get_or told (2 * j + 1) 0

    here : (m : ℕ) → m ≡ j → get_or (set bits (2 * j + 1) k) (2 * m + 1) 0 ≡ get_or told (2 * m + 1) 0
    here m e = rw e (get_or-set_same bits (2 * j + 1) k 0 l)

    there : (m : ℕ) → m < j + 1 → (m ≡ j → ⊥) → get_or (set bits (2 * j + 1) k) (2 * m + 1) 0 ≡ get_or told (2 * m + 1) 0
    there m h d =
        get_or-set_other bits (2 * j + 1) (2 * m + 1) k 0 (λ z. d (omega (arith, z))) ∙ T.taken m (omega (arith, h, d))

pub taken-kinds : (told old bits : List ℕ) (n : ℕ) → Taken told old bits n → length old ≡ length told
    → ((i : ℕ) → 2 * n ≤ i → get_or old i 0 ≡ get_or told i 0) → kinds_in bits ≡ kinds_in told
unfolding kinds_in
taken-kinds told old bits n T e behind = each_same (λ w k. k) bits told (T.size ∙ e)
    (λ m h. ⊎_elim (λ (l : m < n). T.taken m l) (λ (l : n ≤ m). T.left m l ∙ behind (2 * m + 1) (omega (arith, l)))
    (lt-or_le m n))

pub taken-values : (told old bits : List ℕ) (n : ℕ) → Taken told old bits n → values_in bits ≡ values_in old
unfolding values_in
taken-values told old bits n T = each_same (λ w k. w) bits old T.size (λ m h. T.words m)
