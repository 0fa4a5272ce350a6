-- A screen without symbols is merged as ever, whatever text pool is lent.
use mathlib.Core.Path.{◌≡◌, refl, sym, ◌∙◌, ap, fun_ext}
use mathlib.Core.Bool.{Bool, true, false, cond}
use mathlib.Core.List.{List, [], ◌∷◌, map}
use Prim.Native.Nat.{ℕ, ◌<◌}
use lib.Dec.{ltb, leb, eqb}
use lib.ListN.{length}
use lib.IntN.{ℤ}
use borrow.Author.Tests.{ltb-true}
use Rattle.records.specs.Record.{record_at, node, fields_at}
use Rattle.checking.specs.Check.{check_answer, check_answer_in}
use Rattle.checking.specs.Tree.{tree_count}
use Rattle.records.specs.declared.record.Record.{Record}
use Rattle.truth.specs.AExpr.{AExpr, Missing, map_aexpr}
use Rattle.truth.specs.FromBytes.{to_aexpr, aexpr_of, aexpr_at}
use Rattle.constraints.specs.Scalars.{Scalars}
use Rattle.constraints.specs.Payload.{payload}
use Rattle.constraints.specs.Comparisons.{ColumnComparison, IsEq, IsLower, IsUpper, IsNotEq}
use Rattle.constraints.specs.Mapped.{map_comparison}
use Rattle.constraints.proofs.Carried.{Carries, along}
use Rattle.merge.specs.Classify.{Conjunct, read_conjuncts}
use Rattle.merge.specs.Emit.{Outcome, Unchanged, NothingPasses, Rebuilt, merge_filter_constraints}
use Rattle.merge.specs.Lines.{map_conjunct, map_comparisons, map_outcome}
use Rattle.merge.specs.Passes.{merge_passes, rewrite_passes}
use Rattle.merge.specs.declared.answer.RewriteAnswer.TheVariants as answer
use Rattle.merge.specs.Minterms.{minterms}
use Rattle.merge.specs.Write.{outcome_bytes}
use Rattle.merge.specs.Rewrite.{outcome_answer, outcome_of, rewrite_checked, rewrite_if, written_if, rewrite_answer, rewrite_bytes}
use Rattle.merge.proofs.Carried.{merge_carried, passes-carried}
use Rattle.symbol_screens.specs.Held.{Held, Number, held, bits_of, holding}
use Rattle.symbol_screens.specs.Reading.{value_type, held_aexpr, held_at}
use Rattle.symbol_screens.specs.Rewriting.{lent, outcome_with, rewrite_checked_with, rewrite_answer_with, rewrite_bytes_with, rewrite_passes_with}
use Rattle.merge.proofs.ReadMapped.{minterms-mapped, read_mapped}
use Rattle.symbol_screens.proofs.NumbersChecked.{NoText, value-type, check-same}

-- No used record has a symbol.
abbrev pub NoSymbol : List ℕ → ℕ → Type 0
NoSymbol rs used = (n : ℕ) → n < used → eqb (value_type (record_at rs (node n))) 4 ≡ false

numbers-carry : (text : List ℕ) → Carries (holding text) Number
unfolding holding
numbers-carry text =
    record { opened = λ bound excluded. excluded; opened-key = λ bound excluded. refl; opens = λ bound excluded. refl }

numbers-along : (text : List ℕ) → along (numbers-carry text) ≡ payload
unfolding holding payload numbers-carry
numbers-along text = refl

-- the bits of numbers are the numbers
back : (o : Outcome ℕ) → map_outcome bits_of (map_outcome Number o) ≡ o
back Unchanged = refl
back NothingPasses = refl
back (Rebuilt ns cs) = ap (Rebuilt ns) (go cs)
  where
    one : (c : ColumnComparison ℕ) → map_comparison bits_of (map_comparison Number c) ≡ c
    one (IsEq v) = refl
    one (IsLower inclusive v) = refl
    one (IsUpper inclusive v) = refl
    one (IsNotEq v) = refl

    go : (l : List (ℕ × ColumnComparison ℕ)) → map_comparisons bits_of (map_comparisons Number l) ≡ l
    go [] = refl
    go (x ∷ l) = λ i. (x.0, one x.1 i) ∷ go l i

module _ (rs p : List ℕ) (used : ℕ) (none : NoSymbol rs used) where
  pub numbers-held : (n : ℕ) → held_at rs p used n ≡ map_aexpr Number (aexpr_at rs p used n)
  unfolding held_at aexpr_at aexpr_of
  numbers-held n = go (ltb n used) refl
    where
      r : Record
      r = record_at rs (node n)

      go : (b : Bool) → ltb n used ≡ b → cond b (held_aexpr p r) Missing ≡ map_aexpr Number (cond b (to_aexpr p r) Missing)
      go true h = ap (λ (g : ℕ → Held). map_aexpr g (to_aexpr p r)) (fun_ext (λ v. rw (none n (ltb-true n used h))))
      go false h = refl

  reading : (root : ℕ) → read_conjuncts (held_at rs p used) root ≡ map (map_conjunct Number) (read_conjuncts (aexpr_at rs p used) root)
  reading root =
      ap (λ (R : ℕ → AExpr Held). read_conjuncts R root) (fun_ext numbers-held) ∙ read_mapped Number (aexpr_at rs p used) root

  pub numbers-outcome : (text : List ℕ) (root : ℕ) → outcome_with text rs p used root ≡ outcome_of rs p used root
  numbers-outcome text root =
      ap (λ l. map_outcome bits_of (merge_filter_constraints (holding text) l)) (reading root)
      ∙ ap (map_outcome bits_of) (sym (merge_carried (holding text) Number (numbers-carry text) (read_conjuncts (aexpr_at rs p used) root)))
      ∙ back (merge_filter_constraints (along (numbers-carry text)) (read_conjuncts (aexpr_at rs p used) root))
      ∙ ap (λ (S : Scalars ℤ ℕ). merge_filter_constraints S (read_conjuncts (aexpr_at rs p used) root)) (numbers-along text)

  walk : (root : ℕ) → minterms (held_at rs p used) root ≡ minterms (aexpr_at rs p used) root
  walk root =
      ap (λ (R : ℕ → AExpr Held). minterms R root) (fun_ext numbers-held) ∙ minterms-mapped Number (aexpr_at rs p used) root

  pub numbers-passes : (text : List ℕ) (root : ℕ) → rewrite_passes_with text rs p used root ≡ rewrite_passes rs p used root
  unfolding rewrite_passes_with rewrite_passes
  numbers-passes text root =
      ap (merge_passes (holding text)) (reading root)
      ∙ sym (passes-carried (holding text) Number (numbers-carry text) (read_conjuncts (aexpr_at rs p used) root))
      ∙ ap (λ (S : Scalars ℤ ℕ). merge_passes S (read_conjuncts (aexpr_at rs p used) root)) (numbers-along text)

-- A screen without Text: the answer, the records' bytes and the passes are those of a screen that no text pool is lent with.
pub record AsNumbers (text t rs p : List ℕ) (used root : ℕ) : Type 0 where
  pub answer : rewrite_answer_with text t rs p used root ≡ rewrite_answer t rs p used root
  pub bytes : rewrite_bytes_with text t rs p used root ≡ rewrite_bytes t rs p used root
  pub passes : rewrite_passes_with text rs p used root ≡ rewrite_passes rs p used root

pub as_numbers : (text t rs p : List ℕ) (used root : ℕ) → leb (lent text) 8193 ≡ true → NoText t rs used →
    AsNumbers text t rs p used root
unfolding rewrite_answer_with rewrite_answer rewrite_bytes_with rewrite_bytes record_at
as_numbers text t rs p used root short free =
    record {
      answer = same;
      bytes = λ i. written_if (same i) rs (outcome_bytes t rs used (out i));
      passes = numbers-passes rs p used none text root;
    }
  where
    none : NoSymbol rs used
    none n h = value-type (fields_at rs (node n)) (free.records n h)

    out : outcome_with text rs p used root ≡ outcome_of rs p used root
    out = numbers-outcome rs p used none text root

    same : rewrite_if (check_answer_in (lent text) t rs p used root) (rewrite_checked_with text t rs p used root) ≡
        rewrite_if (check_answer t rs p used root) (rewrite_checked t rs p used root)
    same =
        λ i. rewrite_if (check-same (lent text) t rs p used short free root i)
        (cond (ltb 4096 (tree_count rs root)) (answer.Refused 8)
        (cond (ltb 128 (length (walk rs p used none root i))) (answer.Refused 9) (outcome_answer t rs used (out i))))
