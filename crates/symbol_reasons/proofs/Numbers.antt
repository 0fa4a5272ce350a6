-- A screen without Text has the answer, the bytes and the text that it ever had, whatever text pool is lent.
use mathlib.Core.Path.{◌≡◌, refl, sym, ◌∙◌, ap, fun_ext}
use mathlib.Core.Bool.{true, false}
use mathlib.Core.List.{List, [], ◌∷◌, map}
use Prim.Native.Nat.{ℕ, suc}
use lib.Dec.{leb}
use lib.IntN.{ℤ}
use lib.ListN.{length}
use Rattle.records.specs.Record.{record_at, node, fields_at}
use Rattle.truth.specs.AExpr.{AExpr}
use Rattle.truth.specs.FromBytes.{aexpr_at}
use Rattle.constraints.specs.Scalars.{Scalars}
use Rattle.constraints.specs.Comparisons.{ColumnComparison, IsEq, IsLower, IsUpper, IsNotEq}
use Rattle.constraints.specs.Lined.{Lined, on_line, lined}
use Rattle.constraints.specs.Mapped.{map_comparison}
use Rattle.constraints.proofs.Carried.{Carries, along}
use Rattle.merge.specs.Classify.{Conjunct, read_conjuncts}
use Rattle.merge.specs.Emit.{Outcome, Unchanged, NothingPasses, Rebuilt, merge_filter_constraints}
use Rattle.merge.specs.Lines.{map_conjunct, map_comparisons, map_outcome, lines_from, lined_outcome}
use Rattle.merge.specs.Reasons.{Reason, as_number, reason_of, reasons_of}
use Rattle.merge.specs.Rewrite.{outcome_of, written_if}
use Rattle.merge.specs.Write.{outcome_bytes}
use Rattle.merge.proofs.Carried.{merge_carried}
use Rattle.merge.proofs.ReadMapped.{read_mapped}
use Rattle.reasons.specs.Text.{reasons_text}
use Rattle.reasons.specs.Explained.{refuse_long, explained_text, explained_answer, explained_bytes}
use Rattle.symbol_screens.specs.Held.{Held, Number}
use Rattle.symbol_screens.specs.Reading.{held_at}
use Rattle.symbol_screens.specs.Rewriting.{lent, outcome_with}
use Rattle.symbol_screens.proofs.NumbersChecked.{NoText, value-type}
use Rattle.symbol_screens.proofs.Numbers.{NoSymbol, numbers-held, numbers-outcome, as_numbers}
use Rattle.symbol_reasons.specs.Lined.{LinedHeld, held_on_line, holding_lined, held_lines_from, lined_outcome_with}
use Rattle.symbol_reasons.specs.Explained.{held_reason, held_reasons, explained_text_with, explained_answer_with, explained_bytes_with}
use Rattle.symbol_reasons.proofs.Carried.{conjunct-same}

-- A number under its line.
abbrev pub number_on_line : Lined → LinedHeld
number_on_line v = record { held = Number v.bits; line = v.line }

numbers-carry : (text : List ℕ) → Carries (holding_lined text) number_on_line
unfolding holding_lined lined
numbers-carry text =
    record { opened = lined.opened; opened-key = λ held excluded. refl; opens = λ held excluded. refl }

numbers-along : (text : List ℕ) → along (numbers-carry text) ≡ lined
unfolding holding_lined lined numbers-carry
numbers-along text = refl

lines-numbered : (i : ℕ) (l : List (Conjunct ℕ)) →
    held_lines_from i (map (map_conjunct Number) l) ≡ map (map_conjunct number_on_line) (lines_from i l)
unfolding held_lines_from lines_from
lines-numbered i [] = refl
lines-numbered i (c ∷ l) =
    λ j. conjunct-same (held_on_line i) Number number_on_line (on_line i) (λ v. refl) c j ∷ lines-numbered (suc i) l j

-- ---- the reasons
reason_number : (text : List ℕ) (c : ℕ) (x : ColumnComparison Lined) →
    held_reason text (c, map_comparison number_on_line x) ≡ reason_of as_number (c, x)
reason_number text c (IsEq v) = refl
reason_number text c (IsLower true v) = refl
reason_number text c (IsLower false v) = refl
reason_number text c (IsUpper true v) = refl
reason_number text c (IsUpper false v) = refl
reason_number text c (IsNotEq v) = refl

reasons_numbers : (text : List ℕ) (o : Outcome Lined) → held_reasons text (map_outcome number_on_line o) ≡ reasons_of as_number o
reasons_numbers text Unchanged = refl
reasons_numbers text NothingPasses = refl
reasons_numbers text (Rebuilt ns cs) = go cs
  where
    go : (l : List (ℕ × ColumnComparison Lined)) → map (held_reason text) (map_comparisons number_on_line l) ≡ map (reason_of as_number) l
    go [] = refl
    go (x ∷ l) = λ i. reason_number text x.0 x.1 i ∷ go l i

module _ (text rs p : List ℕ) (used root : ℕ) (none : NoSymbol rs used) where
  numbers : List (Conjunct ℕ)
  numbers = read_conjuncts (aexpr_at rs p used) root

  lined-numbers : lined_outcome_with text rs p used root ≡ map_outcome number_on_line (lined_outcome rs p used root)
  unfolding numbers
  lined-numbers =
      ap (λ (R : ℕ → AExpr Held). merge_filter_constraints (holding_lined text) (held_lines_from 0 (read_conjuncts R root)))
      (fun_ext (numbers-held rs p used none))
      ∙ ap (λ l. merge_filter_constraints (holding_lined text) (held_lines_from 0 l)) (read_mapped Number (aexpr_at rs p used) root)
      ∙ ap (merge_filter_constraints (holding_lined text)) (lines-numbered 0 numbers)
      ∙ sym (merge_carried (holding_lined text) number_on_line (numbers-carry text) (lines_from 0 numbers))
      ∙ ap (λ (S : Scalars ℤ Lined). map_outcome number_on_line (merge_filter_constraints S (lines_from 0 numbers))) (numbers-along text)

  pub text-numbers : explained_text_with text rs p used root ≡ explained_text rs p used root
  unfolding explained_text_with explained_text
  text-numbers =
      ap (λ o. reasons_text (held_reasons text o)) lined-numbers
      ∙ ap reasons_text (reasons_numbers text (lined_outcome rs p used root))

pub record AsExplained (text t rs p : List ℕ) (used root len : ℕ) : Type 0 where
  pub told : explained_text_with text rs p used root ≡ explained_text rs p used root
  pub answer : explained_answer_with text t rs p used root len ≡ explained_answer t rs p used root len
  pub bytes : explained_bytes_with text t rs p used root len ≡ explained_bytes t rs p used root len

pub as_explained : (text t rs p : List ℕ) (used root len : ℕ) → leb (lent text) 8193 ≡ true → NoText t rs used →
    AsExplained text t rs p used root len
unfolding explained_answer_with explained_answer explained_bytes_with explained_bytes record_at
as_explained text t rs p used root len short free =
    record { told = same; answer = answered; bytes = λ i. written_if (answered i) rs (outcome_bytes t rs used (out i)) }
  where
    none : NoSymbol rs used
    none n h = value-type (fields_at rs (node n)) (free.records n h)

    same : explained_text_with text rs p used root ≡ explained_text rs p used root
    same = text-numbers text rs p used root none

    answered : explained_answer_with text t rs p used root len ≡ explained_answer t rs p used root len
    answered = λ i. refuse_long (length (same i)) len ((as_numbers text t rs p used root short free).answer i)

    out : outcome_with text rs p used root ≡ outcome_of rs p used root
    out = numbers-outcome rs p used none text root
