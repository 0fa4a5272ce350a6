-- A row of a screen without Text is tested as ever, whatever text pool is lent.
use mathlib.Core.Path.{◌≡◌, refl, sym, ◌∙◌, ap, fun_ext}
use mathlib.Core.Bool.{false, cond, ◌&&◌}
use mathlib.Core.List.{List}
use mathlib.Core.Logic.{◌⊎◌, ⊎_elim}
use mathlib.Core.Option.{Option}
use Prim.Native.Nat.{ℕ, ◌*◌, ◌≤◌, ◌<◌}
use native.Mathlib.Omega.{arith}
use lib.Dec.{ltb, eqb}
use lib.IntN.{ℤ}
use lib.ListN.{length, get_or, get_or-eq_default}
use borrow.Author.Tests.{le-leb}
use Rattle.records.specs.Bytes.{value_at}
use Rattle.records.specs.Record.{node, fields_at, record_at}
use Rattle.checking.specs.Tree.{tree_count}
use Rattle.checking.specs.Check.{check_answer}
use Rattle.checking.specs.Fault.{Stands}
use Rattle.checking.specs.Answer.{CheckAnswer}
use Rattle.checking.specs.Answer as check
use Rattle.checking.proofs.Standing.{all_same, typed-same}
use Rattle.check_lent.proofs.Lent.{accepted-free}
use Rattle.row_test.specs.Answer.{RowAnswer}
use Rattle.row_test.specs.Answer.{Refused, Tested}
use Rattle.row_test.specs.RowTest.{column_ok, columns_ok, marks_ok, row_fault, checked_answer, answer_if, test_row_answer}
use Rattle.truth.specs.FromBytes.{aexpr_at, null_marked, row_keys, truth_in}
use Rattle.truth.proofs.Keys.{lt-or_le}
use Rattle.symbol_screens.specs.Reading.{held_at}
use Rattle.symbol_screens.specs.Rewriting.{lent}
use Rattle.symbol_screens.specs.Rows.{row_keys_with, truth_with}
use Rattle.symbol_screens.proofs.NumbersChecked.{NoText, value-type, check-same}
use Rattle.symbol_screens.proofs.Numbers.{NoSymbol}
use Rattle.symbol_screens.proofs.NumbersTested.{numbers-truth, numbers-row}
use Rattle.symbol_rows.specs.RowTestWith.{column_ok_with, columns_ok_with, row_fault_with, checked_answer_with, test_row_answer_with}

module _ (text t rs p row : List ℕ) (nulls used root : ℕ) (short : length text ≤ 8192) (free : NoText t rs used) where
  column-same : (c : ℕ) → c < length t → column_ok_with (lent text) (get_or t c 0) (null_marked nulls c) (value_at row c) ≡
      column_ok (get_or t c 0) (null_marked nulls c) (value_at row c)
  unfolding column_ok_with column_ok
  column-same c h =
      ap (λ b. cond (null_marked nulls c) (eqb (value_at row c) 0) b)
      (typed-same (lent text) (get_or t c 0) (value_at row c) (free.columns c h))

  columns-same : columns_ok_with (lent text) t row nulls ≡ columns_ok t row nulls
  unfolding columns_ok_with columns_ok
  columns-same =
      all_same (λ (c : ℕ). column_ok_with (lent text) (get_or t c 0) (null_marked nulls c) (value_at row c))
      (λ (c : ℕ). column_ok (get_or t c 0) (null_marked nulls c) (value_at row c)) (length t) column-same

  fault_same : row_fault_with text t row nulls ≡ row_fault t row nulls
  unfolding row_fault_with row_fault
  fault_same =
      ap (λ b. cond (eqb (length row) (8 * length t)) (cond (marks_ok (length t) nulls && b) 0 13) 12) columns-same

  no_text : (c : ℕ) → eqb (get_or t c 0) 4 ≡ false
  no_text c =
      ⊎_elim (λ (h : c < length t). free.columns c h) (λ (h : length t ≤ c). ap (λ x. eqb x 4) (get_or-eq_default t 0 h))
      (lt-or_le c (length t))

  no_symbol : NoSymbol rs used
  unfolding record_at
  no_symbol n h = value-type (fields_at rs (node n)) (free.records n h)

  truth-same : truth_with text (held_at rs p used) (row_keys_with text t row nulls) root ≡
      truth_in (aexpr_at rs p used) (row_keys row nulls) root
  truth-same =
      numbers-truth text rs p used no_symbol (row_keys_with text t row nulls) root
      ∙ ap (λ (r : ℕ → Option ℤ). truth_in (aexpr_at rs p used) r root)
      (fun_ext (λ c. numbers-row text t row nulls c (no_text c)))

  pub same_answer : test_row_answer t rs p used root row nulls ≡ test_row_answer_with text t rs p used root row nulls
  unfolding test_row_answer test_row_answer_with checked_answer checked_answer_with
  same_answer =
      sym (λ i. answer_if (check-same (lent text) t rs p used (le-leb (lent text) 8193 (omega (arith, short))) free root i)
      (cond (ltb 4096 (tree_count rs root)) (Refused 8)
      (cond (eqb (fault_same i) 0) (Tested (truth-same i)) (Refused (fault_same i)))))

-- ---- An answer that stands.
refused-same : (text t rs p row : List ℕ) (nulls used root n : ℕ) → length text ≤ 8192 → Stands t rs p used root
    → check_answer t rs p used root ≡ check.Refused n
    → test_row_answer t rs p used root row nulls ≡ test_row_answer_with text t rs p used root row nulls
unfolding test_row_answer test_row_answer_with
refused-same text t rs p row nulls used root n short h e = rw (h (lent text) (omega (arith, short)) ∙ e, e)

pub stands_alike : (text t rs p row : List ℕ) (nulls used root : ℕ) (a : RowAnswer)
    → Stands t rs p used root × (a ≡ test_row_answer t rs p used root row nulls)
    → length text ≤ 8192 → a ≡ test_row_answer_with text t rs p used root row nulls
stands_alike text t rs p row nulls used root a e h = e.1 ∙ go (check_answer t rs p used root) refl
  where
    go : (b : CheckAnswer) → check_answer t rs p used root ≡ b
        → test_row_answer t rs p used root row nulls ≡ test_row_answer_with text t rs p used root row nulls
    go (check.Refused n) k = refused-same text t rs p row nulls used root n h e.0 k
    go check.Accepted k = same_answer text t rs p row nulls used root h (accepted-free t rs p used root k)
