-- A row that the row test accepts holds values of its columns' types.
-- Assumes nothing.
use mathlib.Core.Path.{◌≡◌, refl, subst}
use mathlib.Core.Bool.{Bool, true, false, cond, ◌&&◌}
use mathlib.Core.List.{List}
use mathlib.Core.Logic.{◌⊎◌, inl, inr}
use mathlib.Core.Option.{Option, none, some}
use Prim.Native.Nat.{ℕ, zero, suc, ◌*◌, ◌<◌, ◌≤◌}
use native.Mathlib.Omega.{arith}
use lib.Dec.{eqb, leb}
use lib.IntN.{ℤ}
use lib.ListN.{length, get_or}
use borrow.Author.Tests.{leb-true}
use Rattle.records.specs.Bytes.{value_at}
use Rattle.records.specs.Shape.{in_type, in_type_in}
use Rattle.records.proofs.Loops.{all_holds}
use Rattle.truth.specs.Halves.{key}
use Rattle.truth.specs.FromBytes.{null_marked, row_keys, truth_keys}
use Rattle.row_test.specs.RowTest.{column_ok, columns_ok, marks_ok, row_fault}

columns-ok_of : (t row : List ℕ) (nulls : ℕ) → row_fault t row nulls ≡ 0 → columns_ok t row nulls ≡ true
unfolding row_fault
columns-ok_of t row nulls = go (eqb (length row) (8 * length t)) (marks_ok (length t) nulls) (columns_ok t row nulls)
  where
    go : (a b d : Bool) → ◌≡◌ {A = ℕ} (cond a (cond (b && d) 0 13) 12) 0 → d ≡ true
    go true true true e = refl
    go true true false e = absurd (omega (arith, e))
    go true false d e = absurd (omega (arith, e))
    go false b d e = absurd (omega (arith, e))

-- null, false or true
abbrev pub IsTruth : Option ℤ → Type 0
IsTruth x = (x ≡ none) ⊎ ((x ≡ some truth_keys.false_key) ⊎ (x ≡ some truth_keys.true_key))

-- A column of type Truth holds a truth.
pub truth-columns :
    (t row : List ℕ) (nulls : ℕ) → row_fault t row nulls ≡ 0 → (c : ℕ) → c < length t → get_or t c 0 ≡ 3 →
    IsTruth (row_keys row nulls c)
unfolding row_keys columns_ok column_ok in_type_in
truth-columns t row nulls e c h ty =
    go (null_marked nulls c) (value_at row c)
    (subst (λ y. cond (null_marked nulls c) (eqb (value_at row c) 0) (in_type y (value_at row c)) ≡ true) ty
    (all_holds (λ (k : ℕ). column_ok (get_or t k 0) (null_marked nulls k) (value_at row k)) c (length t) h (columns-ok_of t row
    nulls e)))
  where
    small : (v : ℕ) → v ≤ 1 → IsTruth (some (key v))
    small zero k = inr (inl refl)
    small (suc zero) k = inr (inr refl)
    small (suc (suc v)) k = absurd (omega arith)

    go : (b : Bool) (v : ℕ) → cond b (eqb v 0) (leb v 1) ≡ true → IsTruth (cond b none (some (key v)))
    go true v k = inl refl
    go false v k = small v (leb-true v 1 k)
