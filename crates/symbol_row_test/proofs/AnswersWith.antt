-- The answer of the row test for a checked screen, one law for each way it ends.
use mathlib.Core.Path.{◌≡◌, refl, sym, ◌∙◌, ap}
use mathlib.Core.Bool.{Bool, true, false, cond, ◌&&◌, true≢false}
use mathlib.Core.List.{List}
use Prim.Native.Nat.{ℕ, suc, ◌/◌, ◌%◌, ◌<◌, ◌≤◌, min}
use native.Mathlib.Omega.{arith}
use lib.Dec.{ltb, leb, eqb}
use lib.ListN.{length}
use borrow.Author.Tests.{lt-ltb, le-ltb, ne_eqb, leb-true}
use Rattle.records.proofs.Laws.{and_left, and_right}
use Rattle.checking.specs.Check.{table_ok_in, sizes_ok_in, types_known_in}
use Rattle.checking.specs.Checked.{CheckedIn}
use Rattle.checking.specs.Tree.{tree_count}
use Rattle.three_valued.specs.declared.logic.Truth.{Truth}
use Rattle.row_test.specs.Answer.{RowAnswer}
use Rattle.row_test.specs.Answer.{Refused, Tested}
use Rattle.row_test.proofs.Answers.{over, within}
use Rattle.symbol_screens.specs.Reading.{held_at}
use Rattle.symbol_screens.specs.Rewriting.{lent}
use Rattle.symbol_screens.specs.Rows.{row_keys_with, truth_with}
use Rattle.symbol_rows.specs.RowTestWith.{row_fault_with, checked_answer_with}

module _ (text t rs p : List ℕ) (used root : ℕ) (ok : CheckedIn (lent text) t rs p used root) where
  pub columns-small : length t ≤ 64
  unfolding table_ok_in
  columns-small = leb-true (length t) 64 (and_left (leb (length t) 64) (types_known_in (lent text) t) ok.table)

  pub text-small : length text ≤ 8192
  unfolding sizes_ok_in
  text-small =
      let k = and_right (eqb (length p % 8) 0) _ (and_right (leb used (length rs / 16)) _
      (and_right (leb used 4096) _ ok.sizes)) in
      let h : suc (length text) ≤ 8193 = leb-true (lent text) 8193 (go (leb (lent text) 8193) k) in omega (arith, h)
    where
      go : (b : Bool) → cond b (leb (length p / 8) 8192) false ≡ true → b ≡ true
      go true h = refl
      go false h = h

-- A tree that is too large, by the count itself: so a check finds it without the name of a test.
pub large_refused :
    (text t rs p row : List ℕ) (nulls used root : ℕ) → 4096 < tree_count rs root →
    checked_answer_with text t rs p used root row nulls ≡ Refused 8
unfolding checked_answer_with
large_refused text t rs p row nulls used root h = rw (lt-ltb 4096 (tree_count rs root) h)

module _ (text t rs p row : List ℕ) (nulls used root : ℕ) (c : ℕ) (counted : c ≡ min (tree_count rs root) 4097) where
  pub tree-refused : 4096 < c → Refused 8 ≡ checked_answer_with text t rs p used root row nulls
  tree-refused h = sym (large_refused text t rs p row nulls used root (over (tree_count rs root) c counted h))

  module _ (small : c ≤ 4096) (f : ℕ) (fault : f ≡ row_fault_with text t row nulls) where
    pub row-refused : (f ≡ 0 → ⊥) → Refused f ≡ checked_answer_with text t rs p used root row nulls
    unfolding checked_answer_with
    row-refused d =
        rw (le-ltb 4096 (tree_count rs root) (within (tree_count rs root) c counted small), ← fault, ne_eqb f 0 d)

    pub row-tested : f ≡ 0 → (r : Truth) → r ≡ truth_with text (held_at rs p used) (row_keys_with text t row nulls) root →
        Tested r ≡ checked_answer_with text t rs p used root row nulls
    unfolding checked_answer_with
    row-tested e r er =
        rw (le-ltb 4096 (tree_count rs root) (within (tree_count rs root) c counted small), ← fault, e) (ap Tested er)
