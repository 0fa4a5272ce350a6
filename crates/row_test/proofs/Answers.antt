-- The answer of the row test for a checked screen, one law for each way it ends.
-- Assumes nothing.
use mathlib.Core.Path.{◌≡◌, refl, sym, ◌∙◌, ap}
use mathlib.Core.Bool.{Bool, true, false, cond, ◌&&◌}
use mathlib.Core.List.{List}
use Prim.Native.Nat.{ℕ, ◌*◌, ◌<◌, ◌≤◌, min}
use native.Mathlib.Omega.{arith}
use lib.Dec.{eqb}
use lib.ListN.{length}
use borrow.Author.Tests.{lt-ltb, le-ltb, ne_eqb, eqb-true}
use Rattle.checking.specs.Check.{check_answer}
use Rattle.checking.specs.Answer as check
use Rattle.checking.specs.Tree.{tree_count}
use Rattle.checking.specs.Checked.{Checked}
use Rattle.three_valued.specs.declared.logic.Truth.{Truth}
use Rattle.row_test.specs.Answer.{RowAnswer}
use Rattle.row_test.specs.Answer.{Refused, Tested}
use Rattle.truth.specs.Halves.{ord_z, key}
use Rattle.truth.specs.FromBytes.{aexpr_of, aexpr_at, row_keys, truth_keys, truth_in}
use Rattle.row_test.specs.RowTest.{marks_ok, columns_ok, row_fault, checked_answer, test_row_answer}
use Rattle.truth.proofs.Agree.{cells_agree, used-same}

-- A record that is used has the truth that its bytes have.
pub used-truth :
    (rs p row : List ℕ) (nulls used n : ℕ) → n < used →
    truth_in (aexpr_of rs p) (row_keys row nulls) n ≡ truth_in (aexpr_at rs p used) (row_keys row nulls) n
used-truth rs p row nulls used n h =
    ap (λ c. c.truth)
    (cells_agree key ord_z truth_keys (aexpr_of rs p) (aexpr_at rs p used) (row_keys row nulls) used
    (λ m k. sym (used-same rs p used m k)) n h)

-- A row without a fault has eight bytes a column.
pub row-long : (t row : List ℕ) (nulls : ℕ) → row_fault t row nulls ≡ 0 → length row ≡ 8 * length t
unfolding row_fault
row-long t row nulls = go (eqb (length row) (8 * length t)) refl
  where
    go :
        (b : Bool) → eqb (length row) (8 * length t) ≡ b →
        ◌≡◌ {A = ℕ} (cond b (cond (marks_ok (length t) nulls && columns_ok t row nulls) 0 13) 12) 0 → length row ≡ 8 *
        length t
    go true e h = eqb-true (length row) (8 * length t) e
    go false e h = absurd (omega (arith, h))

-- what the count that stops at 4,097 says of the count
pub over : (x c : ℕ) → c ≡ min x 4097 → 4096 < c → 4096 < x
over x c e h = omega arith

pub within : (x c : ℕ) → c ≡ min x 4097 → c ≤ 4096 → x ≤ 4096
within x c e h = omega arith

-- A tree that is too large, by the count itself: so a check finds it without the name of a test.
pub large_refused :
    (t rs p row : List ℕ) (nulls used root : ℕ) → 4096 < tree_count rs root → checked_answer t rs p used root row nulls ≡ Refused 8
unfolding checked_answer
large_refused t rs p row nulls used root h = rw (lt-ltb 4096 (tree_count rs root) h)

module _ (t rs p row : List ℕ) (nulls used root : ℕ) (ok : Checked t rs p used root) where
  module _ (c : ℕ) (counted : c ≡ min (tree_count rs root) 4097) where
    pub tree-refused : 4096 < c → Refused 8 ≡ checked_answer t rs p used root row nulls
    tree-refused h = sym (large_refused t rs p row nulls used root (over (tree_count rs root) c counted h))

    module _ (small : c ≤ 4096) (f : ℕ) (fault : f ≡ row_fault t row nulls) where
      pub row-refused : (f ≡ 0 → ⊥) → Refused f ≡ checked_answer t rs p used root row nulls
      unfolding checked_answer
      row-refused d =
          rw (le-ltb 4096 (tree_count rs root) (within (tree_count rs root) c counted small), ← fault, ne_eqb f 0 d)

      pub row-tested :
          f ≡ 0 → (r : Truth) → r ≡ truth_in (aexpr_of rs p) (row_keys row nulls) root →
          Tested r ≡ checked_answer t rs p used root row nulls
      unfolding checked_answer
      row-tested e r er =
          rw (le-ltb 4096 (tree_count rs root) (within (tree_count rs root) c counted small), ← fault, e)
          (ap Tested (er ∙ used-truth rs p row nulls used root ok.root-used))

-- ---- What checking refuses or accepts.
module _ (t rs p row : List ℕ) (nulls used root : ℕ) where
  pub checking-refused : (k : ℕ) → check_answer t rs p used root ≡ check.Refused k
      → Refused k ≡ test_row_answer t rs p used root row nulls
  unfolding test_row_answer
  checking-refused k e = rw e

  pub checking-accepted : check_answer t rs p used root ≡ check.Accepted → (a : RowAnswer)
      → a ≡ checked_answer t rs p used root row nulls → a ≡ test_row_answer t rs p used root row nulls
  unfolding test_row_answer
  checking-accepted e a h = h ∙ rw e
