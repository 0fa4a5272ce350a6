-- What the call ensures, of the answer that a match has told.
use mathlib.Core.Path.{◌≡◌, refl, sym, ◌∙◌, ap, subst}
use mathlib.Core.Bool.{Bool, true, false, not, cond}
use mathlib.Core.List.{List, [], ◌∷◌}
use Prim.Native.Nat.{ℕ}
use lib.Dec.{ltb}
use lib.ListN.{length}
use Rattle.checking.specs.Check.{check_answer}
use Rattle.checking.specs.Tree.{tree_count}
use Rattle.checking.specs.Answer.{CheckAnswer}
use Rattle.checking.specs.Answer as check
use Rattle.listed.proofs.Listed.{refusal_listed}
use Rattle.truth.specs.FromBytes.{aexpr_at}
use Rattle.merge.specs.Minterms.{minterms}
use Rattle.merge.specs.Plain.{plain_screen}
use Rattle.judge_lines.specs.WayAnswer.{WayAnswer}
use Rattle.judge_lines.specs.WayAnswer as way
use Rattle.judge_lines.specs.Lines.{without, nothing_passes, first_true}
use Rattle.judge_lines.specs.Answer.{line_answer}
use Rattle.way_answer.specs.Answer.{way_checked, way_if, way_answer}
use Rattle.in_the_way.specs.Calls.{way_number, line_out, way_listed, WayPromise}
use Rattle.in_the_way.proofs.Promised.{promised}

way_listed_lem : (t rs p : List ℕ) (used root : ℕ) → way_listed (way_number (way_answer t rs p used root)) ≡ true
unfolding way_answer
way_listed_lem t rs p used root = go (check_answer t rs p used root) refl
  where
    Ok : WayAnswer → Type 0
    Ok a = way_listed (way_number a) ≡ true

    judged : (b c : Bool) (i : ℕ) → Ok (cond b (cond c (way.Line i) way.NoLine) way.Passes)
    judged true true i = refl
    judged true false i = refl
    judged false c i = refl

    refused : (b c d : Bool) (x : WayAnswer) → Ok x
        → Ok (cond b (way.Refused 8) (cond c (way.Refused 9) (cond d x (way.Refused 17))))
    refused true c d x h = refl
    refused false true d x h = refl
    refused false false true x h = h
    refused false false false x h = refl

    first : ℕ
    first = first_true (λ i. not (nothing_passes (aexpr_at rs p used) (without i (minterms (aexpr_at rs p used) root))))
        (length (minterms (aexpr_at rs p used) root))

    go : (a : CheckAnswer) → check_answer t rs p used root ≡ a → Ok (way_if a (way_checked t rs p used root))
    go (check.Refused k) e = refusal_listed 0 t rs p used root (8 ∷ 9 ∷ 17 ∷ 256 ∷ 257 ∷ 258 ∷ []) k e
    go check.Accepted e =
        refused (ltb 4096 (tree_count rs root)) (ltb 128 (length (minterms (aexpr_at rs p used) root)))
        (plain_screen t (aexpr_at rs p used) root)
        (line_answer (aexpr_at rs p used) (minterms (aexpr_at rs p used) root))
        (judged (nothing_passes (aexpr_at rs p used) (minterms (aexpr_at rs p used) root))
        (ltb first (length (minterms (aexpr_at rs p used) root))) first)

-- r is what the layer below answered, a the case that the call is in
pub way_all : (t rs p : List ℕ) (used root old : ℕ) (r a : WayAnswer) → r ≡ a → r ≡ way_answer t rs p used root
    → (way_number a ≡ way_number (way_answer t rs p used root))
    × ((way_listed (way_number a) ≡ true)
    × ((line_out a old ≡ line_out (way_answer t rs p used root) old)
    × WayPromise t rs p used root (way_number a) (line_out a old)))
way_all t rs p used root old r a q e =
    let g : a ≡ way_answer t rs p used root = sym q ∙ e in (
      ap way_number g,
      (
        subst (λ x. way_listed (way_number x) ≡ true) (sym g) (way_listed_lem t rs p used root),
        (ap (λ x. line_out x old) g, promised t rs p used root a g old),
      ),
    )
