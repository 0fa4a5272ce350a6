-- The answer of a screen from that of its numbers.
use mathlib.Core.Path.{◌≡◌, refl, sym, ◌∙◌, ap, subst}
use mathlib.Core.Bool.{Bool, true, false, cond}
use mathlib.Core.List.{List}
use mathlib.Core.Option.{Option, none, some}
use Prim.Native.Nat.{ℕ, ◌≤◌, ◌<◌}
use native.Mathlib.Omega.{arith}
use lib.Dec.{ltb}
use lib.ListN.{length}
use Rattle.checking.specs.Check.{check_answer_in}
use Rattle.checking.specs.Checked.{Checked}
use Rattle.checking.specs.Tree.{tree_count}
use Rattle.checking.specs.Answer.{CheckAnswer}
use Rattle.checking.specs.Answer as check
use Rattle.checking.proofs.Accepted.{checked-in, checked-accepted}
use Rattle.truth.specs.AExpr.{AExpr}
use Rattle.truth.specs.FromBytes.{aexpr_at}
use Rattle.merge.specs.Minterms.{minterms}
use Rattle.merge.specs.Plain.{plain_screen}
use Rattle.judge_lines.specs.WayAnswer.{WayAnswer}
use Rattle.judge_lines.specs.WayAnswer as way
use Rattle.judge_lines.specs.Answer.{line_answer}
use Rattle.plain_lines.specs.Refusal.{refusal_if}
use Rattle.way_answer.specs.Answer.{way_checked, way_if, way_answer}
use Rattle.symbol_screens.specs.Rewriting.{lent}
use Rattle.numbered_screen.specs.Numbered.{Numbered}
use Rattle.numbered_screen.proofs.Checking.{numbers-checked}
use Rattle.numbered_screen.proofs.Reading.{numbers-read, trees_same}
use Rattle.plain_symbols.specs.Refusal.{refusal_number, plain_refusal_with}
use Rattle.plain_symbols.proofs.Refusals.{plain-numbers, PlainWith}
use Rattle.symbol_screens.proofs.NumbersChecked.{NoText}
use Rattle.own_numbers.proofs.Own.{check-as_ever}
use Rattle.way_symbols.specs.Answer.{way_answer_with}

-- 8, 9, 17 and the rest.
abbrev steps : Bool → Bool → Bool → WayAnswer → WayAnswer
steps b c d a = cond b (way.Refused 8) (cond c (way.Refused 9) (cond d a (way.Refused 17)))

refused : (a : CheckAnswer) (b c d : Bool) (l : WayAnswer) (k : ℕ)
    → k ≡ refusal_number (refusal_if a (cond b (some 8) (cond c (some 9) (cond d none (some 17))))) → (k ≡ 0 → ⊥)
    → way.Refused k ≡ way_if a (steps b c d l)
refused (check.Refused j) b c d l k e n = ap way.Refused e
refused check.Accepted true c d l k e n = ap way.Refused e
refused check.Accepted false true d l k e n = ap way.Refused e
refused check.Accepted false false true l k e n = absurd (n e)
refused check.Accepted false false false l k e n = ap way.Refused e

module _ (text t rs p : List ℕ) (used root : ℕ) where
  abbrev lines : WayAnswer
  lines = line_answer (aexpr_at rs p used) (minterms (aexpr_at rs p used) root)

  pub way-refused : (k : ℕ) → k ≡ refusal_number (plain_refusal_with text t rs p used root) → (k ≡ 0 → ⊥)
      → way.Refused k ≡ way_answer_with text t rs p used root
  unfolding plain_refusal_with way_answer_with
  way-refused k e n =
      refused (check_answer_in (lent text) t rs p used root) (ltb 4096 (tree_count rs root))
      (ltb 128 (length (minterms (aexpr_at rs p used) root))) (plain_screen t (aexpr_at rs p used) root) lines k e n

  -- without symbols
  pub way-as-ever : NoText t rs used → length text ≤ 8192 → way_answer t rs p used root ≡ way_answer_with text t rs p used root
  unfolding way_answer way_answer_with
  way-as-ever free h = sym (ap (λ a. way_if a (way_checked t rs p used root)) (check-as_ever t rs used free text p root h))

  way-told : (b c d : Bool) (a : WayAnswer) → b ≡ false → c ≡ false → d ≡ true → steps b c d a ≡ a
  way-told b c d a e f g =
      ap (λ x. steps x c d a) e ∙ ap (λ x. steps false x d a) f ∙ ap (λ x. steps false false x a) g

  way-plain : PlainWith text t rs p used root → way_answer_with text t rs p used root ≡ lines
  unfolding way_answer_with
  way-plain q =
      ap (λ a. way_if a (way_checked t rs p used root)) q.accepted
      ∙ way-told (ltb 4096 (tree_count rs root)) (ltb 128 (length (minterms (aexpr_at rs p used) root)))
      (plain_screen t (aexpr_at rs p used) root) lines q.small q.few q.plain

  module _ (table records : List ℕ) (are : Numbered t rs used table records) (q : PlainWith text t rs p used root) where
    pub number-checked : Checked table records p used root
    number-checked =
        numbers-checked (lent text) t rs p used table records are root (checked-in (lent text) t rs p used root q.accepted)

    way-numbers : way_answer table records p used root ≡ lines
    unfolding way_answer
    way-numbers =
        ap (λ a. way_if a (way_checked table records p used root)) (checked-accepted table records p used root number-checked)
        ∙ ap (λ (S : ℕ → AExpr ℕ). steps (ltb 4096 (tree_count records root)) (ltb 128 (length (minterms S root)))
        (plain_screen table S root) (line_answer S (minterms S root))) (numbers-read t rs used table records are p)
        ∙ way-told (ltb 4096 (tree_count records root)) (ltb 128 (length (minterms (aexpr_at rs p used) root)))
        (plain_screen table (aexpr_at rs p used) root) lines
        (ap (ltb 4096) (trees_same t rs used table records are root number-checked.root-used) ∙ q.small) q.few
        (plain-numbers t rs used table records are (aexpr_at rs p used) root q.plain)

    pub way-alike : way_answer table records p used root ≡ way_answer_with text t rs p used root
    way-alike = way-numbers ∙ sym (way-plain q)
