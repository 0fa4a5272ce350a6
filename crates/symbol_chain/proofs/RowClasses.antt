-- The class of a row, one law for each way it ends; and a reduced copy serves the next row.
use mathlib.Core.Path.{◌≡◌, refl, sym, ◌∙◌, ap}
use mathlib.Core.Bool.{Bool, true, false, cond, not}
use mathlib.Core.List.{List, []}
use Prim.Native.Nat.{ℕ, ◌+◌, ◌-◌, ◌*◌, ◌≤◌, ◌<◌}
use native.Mathlib.Omega.{arith}
use lib.Dec.{ltb, eqb}
use lib.ListN.{length, get_or, set, take, drop}
use lib.Seq.{get_or-set_same, get_or-set_other}
use borrow.Author.Tests.{le-ltb, ne_eqb, eqb-true, eqb-false}
use Rattle.records.specs.Bytes.{all}
use Rattle.records.proofs.Laws.{by-test}
use Rattle.records.proofs.Loops.{all_more, all_fails}
use Rattle.checking.specs.Check.{check_answer_in}
use Rattle.checking.specs.Checked.{CheckedIn}
use Rattle.checking.specs.Tree.{tree_count}
use Rattle.checking.proofs.Accepted.{checked-accepted_in}
use Rattle.three_valued.specs.declared.logic.Truth.{Truth}
use Rattle.three_valued.specs.declared.logic.Truth.TheVariants.{False, Unknown, True}
use Rattle.row_test.specs.Answer.{RowAnswer}
use Rattle.row_test.specs.Answer.{Refused, Tested}
use Rattle.chain_rows.specs.Chain.{row_at, is_tested}
use Rattle.chain_rows.specs.Classes.{truth_class, class_of, Judged}
use Rattle.chain_rows.proofs.Rows.{row-end}
use Rattle.symbol_screens.specs.Reading.{held_at}
use Rattle.symbol_screens.specs.Rewriting.{lent}
use Rattle.symbol_screens.specs.Rows.{row_keys_with, truth_with}
use Rattle.symbol_rows.specs.RowTestWith.{row_fault_with, checked_answer_with, test_row_answer_with}
use Rattle.symbol_reduction.specs.Reduction.{Reduced}

module _ (text t rs p row : List ℕ) (nulls used root : ℕ) (ok : CheckedIn (lent text) t rs p used root)
    (small : tree_count rs root ≤ 4096) (f : ℕ) (fault : f ≡ row_fault_with text t row nulls) where
  pub class_refused : (f ≡ 0 → ⊥) → 3 ≡ class_of (test_row_answer_with text t rs p used root row nulls)
  unfolding test_row_answer_with checked_answer_with
  class_refused d =
      rw (checked-accepted_in (lent text) t rs p used root ok, le-ltb 4096 (tree_count rs root) small, ← fault, ne_eqb f 0 d)

  pub class_tested : f ≡ 0 → (s : Truth) → s ≡ truth_with text (held_at rs p used) (row_keys_with text t row nulls) root →
      truth_class s ≡ class_of (test_row_answer_with text t rs p used root row nulls)
  unfolding test_row_answer_with checked_answer_with
  class_tested e s es =
      rw (checked-accepted_in (lent text) t rs p used root ok, le-ltb 4096 (tree_count rs root) small, ← fault, e) (ap truth_class es)

-- whatever rows made of it, a copy is one for another row
pub reduced_again : (text t rs p row row' : List ℕ) (nulls nulls' used done : ℕ) (out : List ℕ) →
    Reduced text t rs p row nulls used done out → Reduced text t rs p row' nulls' used 0 out
reduced_again text t rs p row row' nulls nulls' used done out h =
    record { kept = h.kept; leaf = λ n l q. absurd (omega (arith, l)); told = λ n l q. absurd (omega (arith, l)) }

-- the part of the values that is lent is the row
pub part_row : (t values : List ℕ) (r : ℕ) →
    take (8 * length t * r + 8 * length t - 8 * length t * r) (drop (8 * length t * r) values) ≡ row_at t values r
unfolding row_at
part_row t values r =
    let e : 8 * length t * r + 8 * length t - 8 * length t * r ≡ 8 * length t = cancelled (8 * length t * r) (8 * length t) in rw e
  where
    cancelled : (a b : ℕ) → a + b - a ≡ b
    cancelled a b = omega arith

-- ---- The classes of the rows so far.
tested-class : (a : RowAnswer) (k : ℕ) → k ≡ class_of a → (k ≡ 3 → ⊥) → is_tested a ≡ true
tested-class (Refused n) k e d = absurd (d e)
tested-class (Tested s) k e d = refl

refused-class : (a : RowAnswer) (k : ℕ) → k ≡ class_of a → k ≡ 3 → is_tested a ≡ false
refused-class (Refused n) k e d = refl
refused-class (Tested False) k e d = absurd (omega (arith, e, d))
refused-class (Tested Unknown) k e d = absurd (omega (arith, e, d))
refused-class (Tested True) k e d = absurd (omega (arith, e, d))

module _ (answers : ℕ → RowAnswer) (r n k : ℕ) (e : k ≡ class_of (answers r)) where
  pub chain-refused : r < n → k ≡ 3 → false ≡ all (λ i. is_tested (answers i)) n
  chain-refused h d = all_fails (λ i. is_tested (answers i)) r n h (refused-class (answers r) k e d)

  pub tested-more : all (λ i. is_tested (answers i)) r ≡ true → (k ≡ 3 → ⊥) → all (λ i. is_tested (answers i)) (r + 1) ≡ true
  tested-more h d = all_more (λ i. is_tested (answers i)) r h (tested-class (answers r) k e d)

  pub judged-more : (classes : List ℕ) → r < length classes → Judged answers classes r → Judged answers (set classes r k) (r + 1)
  unfolding Judged
  judged-more classes h j m l =
      by-test (eqb m r)
      (λ z. let q : m ≡ r = eqb-true m r z in rw q (get_or-set_same classes r k 0 h ∙ e))
      (λ z. let d : (m ≡ r → ⊥) = eqb-false m r z in get_or-set_other classes r m k 0 d ∙ j m (omega (arith, l, d)))

pub judged-none : (answers : ℕ → RowAnswer) (classes : List ℕ) → Judged answers classes 0
unfolding Judged
judged-none answers classes m l = absurd (omega (arith, l))

-- row r of n lies in the values
pub row_inside : (wide rows r size : ℕ) → size ≡ wide * rows → r < rows → wide * r + wide ≤ size
row_inside wide rows r size e h = rw e (row-end wide r rows h)
