-- The answer of a screen from that of its numbers.
use mathlib.Core.Path.{◌≡◌, refl, sym, ◌∙◌, ap}
use mathlib.Core.Bool.{Bool, true, false, cond}
use mathlib.Core.List.{List}
use mathlib.Core.Option.{Option, none, some}
use Prim.Native.Nat.{ℕ, ◌/◌, ◌≤◌}
use lib.Dec.{ltb}
use lib.ListN.{length}
use Rattle.checking.specs.Check.{check_answer_in}
use Rattle.checking.specs.Checked.{Checked}
use Rattle.checking.specs.Tree.{tree_count}
use Rattle.checking.specs.Answer.{CheckAnswer}
use Rattle.checking.specs.Answer as check
use Rattle.checking.proofs.Accepted.{checked-in, checked-accepted}
use Rattle.truth.specs.AExpr.{AExpr}
use Rattle.truth.specs.FromBytes.{aexpr_at}
use Rattle.merge.specs.Minterms.{minterms}
use Rattle.merge.specs.Plain.{plain_screen}
use Rattle.plain_lines.specs.Refusal.{refusal_if}
use Rattle.show_row.specs.ShowAnswer.{ShowAnswer}
use Rattle.show_row.specs.ShowAnswer as show
use Rattle.show_row.specs.Answer.{row_answer, shown_bytes, show_checked, show_if, show_answer}
use Rattle.show_row.specs.Calls.{screen_bytes}
use Rattle.symbol_screens.specs.Rewriting.{lent}
use Rattle.numbered_screen.specs.Numbered.{Numbered}
use Rattle.numbered_screen.proofs.Checking.{numbers-checked}
use Rattle.numbered_screen.proofs.Reading.{numbers-read, trees_same}
use Rattle.plain_symbols.specs.Refusal.{refusal_number, plain_refusal_with}
use Rattle.plain_symbols.proofs.Refusals.{plain-numbers, PlainWith}
use Rattle.symbol_screens.proofs.NumbersChecked.{NoText}
use Rattle.own_numbers.proofs.Own.{check-as_ever}
use Rattle.show_symbols.specs.Answer.{show_answer_with}

-- 8, 9, 17 and the rest.
abbrev pub steps : Bool → Bool → Bool → ShowAnswer → ShowAnswer
steps b c d a = cond b (show.Refused 8) (cond c (show.Refused 9) (cond d a (show.Refused 17)))

refused : (a : CheckAnswer) (b c d : Bool) (l : ShowAnswer) (k : ℕ)
    → k ≡ refusal_number (refusal_if a (cond b (some 8) (cond c (some 9) (cond d none (some 17))))) → (k ≡ 0 → ⊥)
    → show.Refused k ≡ show_if a (steps b c d l)
refused (check.Refused j) b c d l k e n = ap show.Refused e
refused check.Accepted true c d l k e n = ap show.Refused e
refused check.Accepted false true d l k e n = ap show.Refused e
refused check.Accepted false false true l k e n = absurd (n e)
refused check.Accepted false false false l k e n = ap show.Refused e

told : (b c d : Bool) (a : ShowAnswer) → b ≡ false → c ≡ false → d ≡ true → steps b c d a ≡ a
told b c d a e f g = ap (λ x. steps x c d a) e ∙ ap (λ x. steps false x d a) f ∙ ap (λ x. steps false false x a) g

-- 14 and the row, of so many columns.
abbrev pub row_of : (ℕ → AExpr ℕ) → ℕ → ℕ → ℕ → ShowAnswer
row_of S root room n = cond (ltb (room / 16) n) (show.Refused 14) (row_answer S (minterms S root) n)

module _ (text t rs p : List ℕ) (used root room : ℕ) where
  pub show-refused : (k : ℕ) → k ≡ refusal_number (plain_refusal_with text t rs p used root) → (k ≡ 0 → ⊥)
      → show.Refused k ≡ show_answer_with text t rs p used root room
  unfolding plain_refusal_with show_answer_with
  show-refused k e n =
      refused (check_answer_in (lent text) t rs p used root) (ltb 4096 (tree_count rs root))
      (ltb 128 (length (minterms (aexpr_at rs p used) root))) (plain_screen t (aexpr_at rs p used) root)
      (row_of (aexpr_at rs p used) root room (length t)) k e n

  -- without symbols
  pub show-as-ever : NoText t rs used → length text ≤ 8192
      → show_answer t rs p used root room ≡ show_answer_with text t rs p used root room
  unfolding show_answer show_answer_with
  show-as-ever free h = sym (ap (λ a. show_if a (show_checked t rs p used root room)) (check-as_ever t rs used free text p root h))

  show-plain : PlainWith text t rs p used root
      → show_answer_with text t rs p used root room ≡ row_of (aexpr_at rs p used) root room (length t)
  unfolding show_answer_with
  show-plain q =
      ap (λ a. show_if a (show_checked t rs p used root room)) q.accepted
      ∙ told (ltb 4096 (tree_count rs root)) (ltb 128 (length (minterms (aexpr_at rs p used) root)))
      (plain_screen t (aexpr_at rs p used) root) (row_of (aexpr_at rs p used) root room (length t)) q.small q.few q.plain

  module _ (table records : List ℕ) (are : Numbered t rs used table records) (q : PlainWith text t rs p used root) where
    pub number-checked : Checked table records p used root
    number-checked =
        numbers-checked (lent text) t rs p used table records are root (checked-in (lent text) t rs p used root q.accepted)

    pub show-numbers : show_answer table records p used root room ≡ row_of (aexpr_at records p used) root room (length table)
    unfolding show_answer
    show-numbers =
        ap (λ a. show_if a (show_checked table records p used root room))
        (checked-accepted table records p used root number-checked)
        ∙ told (ltb 4096 (tree_count records root)) (ltb 128 (length (minterms (aexpr_at records p used) root)))
        (plain_screen table (aexpr_at records p used) root) (row_of (aexpr_at records p used) root room (length table))
        (ap (ltb 4096) (trees_same t rs used table records are root number-checked.root-used) ∙ q.small)
        (ap (λ (S : ℕ → AExpr ℕ). ltb 128 (length (minterms S root))) (numbers-read t rs used table records are p) ∙ q.few)
        (ap (λ (S : ℕ → AExpr ℕ). plain_screen table S root) (numbers-read t rs used table records are p)
        ∙ plain-numbers t rs used table records are (aexpr_at rs p used) root q.plain)

    pub show-alike : show_answer table records p used root room ≡ show_answer_with text t rs p used root room
    show-alike =
        show-numbers
        ∙ ap (λ (S : ℕ → AExpr ℕ). row_of S root room (length table)) (numbers-read t rs used table records are p)
        ∙ ap (row_of (aexpr_at rs p used) root room) are.columns
        ∙ sym (show-plain q)

    pub bytes-alike : screen_bytes table records p used root ≡ screen_bytes t rs p used root
    bytes-alike =
        ap (λ (S : ℕ → AExpr ℕ). shown_bytes S (minterms S root) (length table)) (numbers-read t rs used table records are p)
        ∙ ap (shown_bytes (aexpr_at rs p used) (minterms (aexpr_at rs p used) root)) are.columns
