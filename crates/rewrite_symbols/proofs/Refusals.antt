-- Refusals of rewriting a screen with symbols: nothing is written, no text is told. And the screen without symbols, as ever.
use mathlib.Core.Path.{◌≡◌, refl, sym, ◌∙◌, ap}
use mathlib.Core.Bool.{true, false, cond, true≢false}
use mathlib.Core.List.{List}
use Prim.Native.Nat.{ℕ, ◌≤◌, ◌<◌}
use lib.Dec.{ltb, leb}
use lib.ListN.{length}
use borrow.Author.Tests.{lt-ltb, le-ltb, le-leb}
use native.Mathlib.Omega.{arith}
use Rattle.checking.specs.Check.{check_answer, check_answer_in}
use Rattle.checking.specs.Tree.{tree_count}
use Rattle.checking.specs.Answer as check
use Rattle.checking.proofs.Accepted.{checked-in}
use Rattle.merge.specs.declared.answer.RewriteAnswer.{RewriteAnswer}
use Rattle.merge.specs.declared.answer.RewriteAnswer.TheVariants as answer
use Rattle.merge.specs.declared.answer.Rewriting.{Rewriting}
use Rattle.merge.specs.Demand.{is_refused}
use Rattle.merge.specs.Minterms.{minterms}
use Rattle.merge.specs.Passes.{rewrite_passes}
use Rattle.merge.specs.Rewrite.{outcome_answer, rewrite_if, written_if}
use Rattle.merge.specs.Write.{outcome_bytes}
use Rattle.read_operands.specs.Walk.{walked}
use Rattle.reasons.specs.Explained.{refuse_long, text_if, length_if, explained_text, explained_answer, explained_bytes}
use Rattle.symbol_screens.specs.Reading.{held_at}
use Rattle.symbol_screens.specs.Rewriting.{lent, outcome_with, rewrite_checked_with, rewrite_answer_with}
use Rattle.symbol_screens.proofs.NumbersChecked.{NoText, check-same}
use Rattle.symbol_screens.proofs.Numbers.{as_numbers}
use Rattle.symbol_reasons.specs.Explained.{explained_text_with, explained_answer_with, explained_bytes_with}
use Rattle.symbol_reasons.proofs.Numbers.{as_explained}
use Rattle.ranked_screen.proofs.Reading.{accepted-sizes}
use Rattle.ranked_reading.proofs.Walking.{held-walked}
use Rattle.symbol_merge.specs.Explains.{Explains}

module _ (text t rs p : List ℕ) (used root : ℕ) where
  -- a refusal is told as it is
  pub refused-explains : (k : ℕ) (r : Rewriting) (buffer : List ℕ) → r.answer ≡ answer.Refused k → r.length ≡ 0
      → rewrite_answer_with text t rs p used root ≡ answer.Refused k → Explains text t rs p used root buffer r rs buffer
  unfolding explained_answer_with explained_bytes_with
  refused-explains k r buffer e l h =
      let a : explained_answer_with text t rs p used root (length buffer) ≡ answer.Refused k =
      ap (refuse_long (length (explained_text_with text rs p used root)) (length buffer)) h in
      record {
        answers = e ∙ sym a;
        writes = sym (ap (λ c. written_if c rs (outcome_bytes t rs used (outcome_with text rs p used root))) a);
        counts = λ q. absurd (true≢false (sym (ap is_refused e) ∙ q));
        tells = sym (ap (λ c. text_if c buffer (explained_text_with text rs p used root)) e);
        measures = l ∙ sym (ap (λ c. length_if c (explained_text_with text rs p used root)) e);
      }

  -- 1 to 7
  pub with_refused : (k : ℕ) → check_answer_in (lent text) t rs p used root ≡ check.Refused k
      → rewrite_answer_with text t rs p used root ≡ answer.Refused k
  unfolding rewrite_answer_with
  with_refused k e = ap (λ a. rewrite_if a (rewrite_checked_with text t rs p used root)) e

  module _ (ok : check_answer_in (lent text) t rs p used root ≡ check.Accepted) where
    checked-with : rewrite_answer_with text t rs p used root ≡ rewrite_checked_with text t rs p used root
    unfolding rewrite_answer_with
    checked-with = ap (λ a. rewrite_if a (rewrite_checked_with text t rs p used root)) ok

    pub with-8 : 4096 < tree_count rs root → rewrite_answer_with text t rs p used root ≡ answer.Refused 8
    with-8 h =
        checked-with
        ∙ ap (λ b. cond b (answer.Refused 8) (cond (ltb 128 (length (minterms (held_at rs p used) root))) (answer.Refused 9)
        (outcome_answer t rs used (outcome_with text rs p used root)))) (lt-ltb 4096 (tree_count rs root) h)

    pub with-9 : tree_count rs root ≤ 4096 → 128 < length (minterms (walked rs) root)
        → rewrite_answer_with text t rs p used root ≡ answer.Refused 9
    with-9 small many =
        checked-with
        ∙ ap (λ b. cond b (answer.Refused 8) (cond (ltb 128 (length (minterms (held_at rs p used) root))) (answer.Refused 9)
        (outcome_answer t rs used (outcome_with text rs p used root)))) (le-ltb 4096 (tree_count rs root) small)
        ∙ ap (λ l. cond (ltb 128 (length l)) (answer.Refused 9) (outcome_answer t rs used (outcome_with text rs p used root)))
        (held-walked (lent text) t rs p used root (checked-in (lent text) t rs p used root ok))
        ∙ ap (λ b. cond b (answer.Refused 9) (outcome_answer t rs used (outcome_with text rs p used root)))
        (lt-ltb 128 (length (minterms (walked rs) root)) many)

  -- a text pool that is accepted is no longer than 8,192 bytes
  pub text-short : check_answer_in (lent text) t rs p used root ≡ check.Accepted → leb (lent text) 8193 ≡ true
  text-short ok =
      let s = (accepted-sizes text rs p used
      (record { table = t; root = root; checked = checked-in (lent text) t rs p used root ok })).text-low in
      le-leb (lent text) 8193 (omega (arith, s))

  -- so a screen without symbols is accepted as without a text pool
  pub accepted-as_ever : check_answer_in (lent text) t rs p used root ≡ check.Accepted → NoText t rs used
      → check_answer t rs p used root ≡ check.Accepted
  accepted-as_ever ok free = sym (check-same (lent text) t rs p used (text-short ok) free root) ∙ ok

  -- without symbols everything is told as without a text pool
  pub numbers-explain : leb (lent text) 8193 ≡ true → NoText t rs used → (r : Rewriting) (buffer out after : List ℕ)
      → r.answer ≡ explained_answer t rs p used root (length buffer) → out ≡ explained_bytes t rs p used root (length buffer)
      → (is_refused r.answer ≡ false → r.passes ≡ rewrite_passes rs p used root)
      → after ≡ text_if r.answer buffer (explained_text rs p used root)
      → r.length ≡ length_if r.answer (explained_text rs p used root) → Explains text t rs p used root buffer r out after
  numbers-explain short free r buffer out after e f g x l =
      let s = as_explained text t rs p used root (length buffer) short free in
      record {
        answers = e ∙ sym s.answer;
        writes = f ∙ sym s.bytes;
        counts = λ q. g q ∙ sym (as_numbers text t rs p used root short free).passes;
        tells = x ∙ ap (text_if r.answer buffer) (sym s.told);
        measures = l ∙ ap (length_if r.answer) (sym s.told);
      }
