-- What the call ensures, of what its parts answered.
use mathlib.Core.Path.{◌≡◌, refl, sym, ◌∙◌, ap, subst}
use mathlib.Core.Bool.{Bool, true, false, cond}
use mathlib.Core.List.{List, [], ◌∷◌}
use mathlib.Core.Option.{none, some}
use Prim.Native.Nat.{ℕ, ◌≤◌, ◌<◌}
use lib.Dec.{ltb}
use lib.ListN.{length, get_or}
use Rattle.checking.specs.Check.{check_answer}
use Rattle.checking.specs.Tree.{tree_count}
use Rattle.checking.specs.Answer.{CheckAnswer}
use Rattle.checking.specs.Answer as check
use Rattle.checking.proofs.Accepted.{checked}
use Rattle.listed.proofs.Listed.{refusal_listed}
use Rattle.truth.specs.FromBytes.{aexpr_of, aexpr_at}
use Rattle.merge.specs.Minterms.{minterms}
use Rattle.merge.specs.Plain.{plain_screen}
use Rattle.merge.specs.Classify.{classify}
use Rattle.merge.specs.Demand.{passes}
use Rattle.reading.specs.Columns.{ColumnsBelow}
use Rattle.reading.proofs.Screens.{node-columns}
use Rattle.places.specs.Places.{places_row, places_ok}
use Rattle.plain_lines.specs.Refusal.{checked_refusal, refusal_if, plain_refusal, refusal_in, LinesIn}
use Rattle.refusal.specs.declared.Refusal.{Refusal}
use Rattle.refusal.specs.Numbers.{number}
use Rattle.std.specs.Prelude.{Result, Ok, Err}
use Rattle.plain_lines.proofs.Refusals.{Plain, not-refused, table-few}
use Rattle.check_row.specs.Line.{lines_true}
use Rattle.check_row.specs.Answer.{refused_or, row_answer, check_row_answer, row_listed}
use Rattle.check_row.proofs.Passing.{lines-pass}

-- ---- The row.
module _ (columns : ℕ) (row : List ℕ) (nulls : ℕ) (b : Bool) where
  pub not-places : places_ok columns row nulls ≡ false → 18 ≡ row_answer columns row nulls b
  not-places e = sym (ap (λ x. cond x (cond b 257 256) 18) e)

  module _ (e : places_ok columns row nulls ≡ true) where
    pub passing : b ≡ true → 257 ≡ row_answer columns row nulls b
    passing f = sym (ap (λ x. cond x (cond b 257 256) 18) e ∙ ap (λ x. cond x 257 256) f)

    pub not-passing : b ≡ false → 256 ≡ row_answer columns row nulls b
    not-passing f = sym (ap (λ x. cond x (cond b 257 256) 18) e ∙ ap (λ x. cond x 257 256) f)

-- ---- The whole answer.
module _ (t rs p : List ℕ) (used root : ℕ) (row : List ℕ) (nulls : ℕ) where
  -- a is what was read of the screen
  module _ (a : Result ℕ Refusal) (told : refusal_in a ≡ plain_refusal t rs p used root) where
    pub row-refused : (r : Refusal) → a ≡ Err r → number r ≡ check_row_answer t rs p used root row nulls
    unfolding check_row_answer
    row-refused r e =
        ap (λ x. refused_or x (row_answer (length t) row nulls (passes rs p used root (places_row row nulls))))
        (ap refusal_in (sym e) ∙ told)

    module _ (nodes : List ℕ) (n : ℕ) (lines : LinesIn rs root nodes a) (e : a ≡ Ok n) where
      is_plain : Plain t rs p used root
      is_plain = not-refused t rs p used root (ap refusal_in (sym e) ∙ told)

      -- What the code asks before it looks at the row: a table of at most 64 columns, and lines that name no other.
      pub few-columns : length t ≤ 64
      few-columns = table-few t rs p used root (checked t rs p used root is_plain.accepted)

      there : LinesIn rs root nodes (Ok n)
      there = subst (LinesIn rs root nodes) e lines

      pub few-lines : n ≤ 128
      few-lines = there.0

      pub columns-there : (i : ℕ) → i < n → ColumnsBelow 64 (classify (aexpr_of rs p) (get_or nodes i 0))
      columns-there = node-columns t rs p used root (checked t rs p used root is_plain.accepted) nodes n there.1

      -- r is what was answered of the row
      pub row-tested : (r : ℕ) → r ≡ row_answer (length t) row nulls (lines_true (aexpr_of rs p) (places_row row nulls) nodes n)
          → r ≡ check_row_answer t rs p used root row nulls
      unfolding check_row_answer
      row-tested r f =
          f
          ∙ ap (row_answer (length t) row nulls)
          (lines-pass t rs p used root (checked t rs p used root is_plain.accepted) (places_row row nulls)
          is_plain.plain nodes n there.1)
          ∙ ap (λ x. refused_or x (row_answer (length t) row nulls (passes rs p used root (places_row row nulls))))
          (ap refusal_in (sym e) ∙ told)

-- ---- Every answer is listed.
answer_listed : (t rs p : List ℕ) (used root : ℕ) (row : List ℕ) (nulls : ℕ)
    → row_listed (check_row_answer t rs p used root row nulls) ≡ true
unfolding check_row_answer plain_refusal
answer_listed t rs p used root row nulls = go (check_answer t rs p used root) refl
  where
    tested : (b c : Bool) → row_listed (cond b (cond c 257 256) 18) ≡ true
    tested true true = refl
    tested true false = refl
    tested false c = refl

    refused : (b c d : Bool) (x : ℕ) → row_listed x ≡ true
        → row_listed (refused_or (cond b (some 8) (cond c (some 9) (cond d none (some 17)))) x) ≡ true
    refused true c d x h = refl
    refused false true d x h = refl
    refused false false true x h = h
    refused false false false x h = refl

    go : (a : CheckAnswer) → check_answer t rs p used root ≡ a
        → row_listed (refused_or (refusal_if a (checked_refusal t rs p used root))
        (row_answer (length t) row nulls (passes rs p used root (places_row row nulls)))) ≡ true
    go (check.Refused k) e = refusal_listed 0 t rs p used root (8 ∷ 9 ∷ 17 ∷ 18 ∷ 256 ∷ 257 ∷ []) k e
    go check.Accepted e =
        refused (ltb 4096 (tree_count rs root)) (ltb 128 (length (minterms (aexpr_at rs p used) root)))
        (plain_screen t (aexpr_at rs p used) root) _
        (tested (places_ok (length t) row nulls) (passes rs p used root (places_row row nulls)))

pub with-listed : (t rs p : List ℕ) (used root : ℕ) (row : List ℕ) (nulls r : ℕ) → r ≡ check_row_answer t rs p used root row nulls
    → (r ≡ check_row_answer t rs p used root row nulls) × (row_listed r ≡ true)
with-listed t rs p used root row nulls r e =
    (e, subst (λ x. row_listed x ≡ true) (sym e) (answer_listed t rs p used root row nulls))
