-- The answers of the three calls are listed.
use mathlib.Core.Path.{◌≡◌, refl}
use mathlib.Core.Bool.{Bool, true, false, cond, ◌&&◌}
use mathlib.Core.List.{List, [], ◌∷◌}
use Prim.Native.Nat.{ℕ, ◌*◌}
use lib.Dec.{eqb, ltb}
use lib.ListN.{length}
use Rattle.checking.specs.Check.{check_answer_in}
use Rattle.checking.specs.Columns.{columns_if, columns_word}
use Rattle.checking.specs.Tree.{tree_count}
use Rattle.checking.specs.Answer.{CheckAnswer}
use Rattle.checking.specs.Answer as check
use Rattle.three_valued.specs.declared.logic.Truth.{Truth}
use Rattle.three_valued.specs.declared.logic.Truth.TheVariants.{False, Unknown, True}
use Rattle.row_test.specs.Answer.{RowAnswer}
use Rattle.row_test.specs.Answer as row
use Rattle.row_test.specs.RowTest.{marks_ok, answer_if}
use Rattle.symbol_screens.specs.Reading.{held_at}
use Rattle.symbol_screens.specs.Rewriting.{lent}
use Rattle.symbol_screens.specs.Rows.{row_keys_with, truth_with}
use Rattle.symbol_rows.specs.ColumnsWith.{columns_answer_in}
use Rattle.symbol_rows.specs.RowTestWith.{columns_ok_with, row_fault_with, checked_answer_with, test_row_answer_with}
use Rattle.listed.proofs.Listed.{pick, refusal_listed}
use Rattle.screen_rows.specs.Answers.{check_number, columns_number, row_number, truth_number}
use Rattle.screen_rows.specs.Listed.{check_listed, columns_listed, row_listed}

-- `text` is one more than the bytes of the text pool
module _ (text : ℕ) (t rs p : List ℕ) (used root : ℕ) where
  pub check-listed : check_listed (check_number (check_answer_in text t rs p used root)) ≡ true
  check-listed = go (check_answer_in text t rs p used root) refl
    where
      go : (a : CheckAnswer) → check_answer_in text t rs p used root ≡ a → check_listed (check_number a) ≡ true
      go (check.Refused k) e = refusal_listed text t rs p used root (256 ∷ []) k e
      go check.Accepted e = refl

  pub columns-listed : columns_listed (columns_number (columns_answer_in text t rs p used root)) ≡ true
  unfolding columns_answer_in
  columns-listed = go (check_answer_in text t rs p used root) refl
    where
      go : (a : CheckAnswer) → check_answer_in text t rs p used root ≡ a
          → columns_listed (columns_number (columns_if a (columns_word rs root))) ≡ true
      go (check.Refused k) e = refusal_listed text t rs p used root (256 ∷ []) k e
      go check.Accepted e = refl

module _ (text t rs p : List ℕ) (used root : ℕ) where
  truth-listed : (x : Truth) → row_listed (truth_number x) ≡ true
  truth-listed False = refl
  truth-listed Unknown = refl
  truth-listed True = refl

  pub row_listed_lem : (values : List ℕ) (nulls : ℕ)
      → row_listed (row_number (test_row_answer_with text t rs p used root values nulls)) ≡ true
  unfolding test_row_answer_with checked_answer_with row_fault_with
  row_listed_lem values nulls = go (check_answer_in (lent text) t rs p used root) refl
    where
      Ok : RowAnswer → Type 0
      Ok a = row_listed (row_number a) ≡ true

      x : RowAnswer
      x = row.Tested (truth_with text (held_at rs p used) (row_keys_with text t values nulls) root)

      tested : (b c : Bool)
          → Ok (cond (eqb (cond b (cond c 0 13) 12) 0) x (row.Refused (cond b (cond c 0 13) 12)))
      tested true true = truth-listed (truth_with text (held_at rs p used) (row_keys_with text t values nulls) root)
      tested true false = refl
      tested false c = refl

      go : (a : CheckAnswer) → check_answer_in (lent text) t rs p used root ≡ a → Ok (answer_if a (checked_answer_with text t rs p used root values nulls))
      go (check.Refused k) e = refusal_listed (lent text) t rs p used root (8 ∷ 12 ∷ 13 ∷ 256 ∷ 257 ∷ 258 ∷ []) k e
      go check.Accepted e =
          pick Ok (ltb 4096 (tree_count rs root)) (row.Refused 8) _ refl
          (tested (eqb (length values) (8 * length t)) (marks_ok (length t) nulls && columns_ok_with (lent text) t values nulls))
