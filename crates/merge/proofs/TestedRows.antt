-- All rows that the row test accepts are rows of demand 3.
use mathlib.Core.Path.{◌≡◌, refl, sym, ◌∙◌, ap, subst}
use mathlib.Core.Bool.{Bool, true, false, cond, ◌&&◌, ◌||◌, true≢false}
use mathlib.Core.List.{List}
use mathlib.Core.Logic.{◌⊎◌, inl, inr}
use mathlib.Core.Option.{Option, none, some}
use Prim.Native.Nat.{ℕ, zero, suc, ◌*◌, ◌≤◌, ◌<◌, ◌^◌}
use native.Mathlib.Omega.{arith}
use lib.Dec.{eqb, ltb, leb}
use lib.IntN.{ℤ}
use lib.ListN.{length, get_or}
use borrow.Author.Tests.{leb-true}
use Rattle.records.specs.Bytes.{value_at, all}
use Rattle.records.specs.Shape.{in_type, in_type_in}
use Rattle.truth.specs.AExpr.{AExpr}
use Rattle.truth.specs.Halves.{key}
use Rattle.truth.specs.FromBytes.{null_marked, row_keys}
use Rattle.row_test.specs.RowTest.{column_ok, columns_ok, marks_ok, row_fault}
use Rattle.merge.specs.Plain.{is_number_column}
use Rattle.merge.specs.Demand.{IsRow, NullOrTruth, NullOrTyped}
use Rattle.records.proofs.Loops.{all_holds}
use Rattle.merge.proofs.Demand.{and_yes, or_no}

truth-key : (v : ℕ) → v ≤ 1 → NullOrTruth (some (key v))
truth-key zero h = inl refl
truth-key (suc zero) h = inr refl
truth-key (suc (suc v)) h = absurd (omega arith)

-- A value of a column that is neither Int nor Day is 0 or 1.
of_truth_lem : (ty v : ℕ) → (eqb ty 1 || eqb ty 2) ≡ false → in_type ty v ≡ true → v ≤ 1
unfolding in_type_in
of_truth_lem ty v n h =
    let e = or_no (eqb ty 1) (eqb ty 2) n in
    leb-true v 1 (rw (e.0, e.1) at h)

one-column :
    (ty v : ℕ) (b : Bool) → (eqb ty 1 || eqb ty 2) ≡ false → column_ok ty b v ≡ true →
    NullOrTruth (cond b none (some (key v)))
unfolding column_ok
one-column ty v true n h = tt
one-column ty v false n h = truth-key v (of_truth_lem ty v n h)

typed-column :
    (ty v : ℕ) (b : Bool) → column_ok ty b v ≡ true → NullOrTyped ty (cond b none (some (key v)))
unfolding column_ok
typed-column ty v true h = tt
typed-column ty v false h = record { bits = v; typed = h; is = refl }

-- 12 and 13 are not given: the row's values and null marks make a row of demand 3, whatever the screen reaches.
pub tested-rows :
    (t row : List ℕ) (nulls : ℕ) → row_fault t row nulls ≡ 0 → (R : ℕ → AExpr ℕ) (root : ℕ) →
    IsRow t R root (row_keys row nulls)
unfolding row_fault columns_ok row_keys
tested-rows t row nulls h R root =
    record {
      truths = λ c l n. one-column (get_or t c 0) (value_at row c) (null_marked nulls c) n (right c l);
      typed = λ e c l. typed-column (get_or t c 0) (value_at row c) (null_marked nulls c) (right c l);
    }
  where
    fits : ℕ → Bool
    fits i = column_ok (get_or t i 0) (null_marked nulls i) (value_at row i)

    thirteen : ◌≡◌ {A = ℕ} 13 0 → ⊥
    thirteen e = omega arith

    twelve : ◌≡◌ {A = ℕ} 12 0 → ⊥
    twelve e = omega arith

    ok : (a m f : Bool) → ◌≡◌ {A = ℕ} (cond a (cond (m && f) 0 13) 12) 0 → f ≡ true
    ok true true true e = refl
    ok true true false e = absurd (thirteen e)
    ok true false f e = absurd (thirteen e)
    ok false m f e = absurd (twelve e)

    right : (c : ℕ) → c < length t → column_ok (get_or t c 0) (null_marked nulls c) (value_at row c) ≡ true
    right c l =
        all_holds fits c (length t) l (ok (eqb (length row) (8 * length t)) (marks_ok (length t) nulls) (all fits (length t))
        h)
