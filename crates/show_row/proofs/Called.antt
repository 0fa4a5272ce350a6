-- What the call ensures, of the answer that a match has told.
use mathlib.Core.Path.{◌≡◌, refl, sym, ◌∙◌, ap, subst}
use mathlib.Core.Bool.{Bool, true, false, cond}
use mathlib.Core.List.{List, [], ◌∷◌}
use Prim.Native.Nat.{ℕ, ◌/◌}
use lib.Dec.{ltb}
use lib.ListN.{length}
use Rattle.checking.specs.Check.{check_answer}
use Rattle.checking.specs.Tree.{tree_count}
use Rattle.checking.specs.Answer.{CheckAnswer}
use Rattle.checking.specs.Answer as check
use Rattle.listed.proofs.Listed.{refusal_listed}
use Rattle.truth.specs.FromBytes.{aexpr_at}
use Rattle.merge.specs.Minterms.{minterms}
use Rattle.merge.specs.Plain.{plain_screen}
use Rattle.judge_lines.specs.Lines.{nothing_passes}
use Rattle.show_row.specs.ShowAnswer.{ShowAnswer}
use Rattle.show_row.specs.ShowAnswer as show
use Rattle.show_row.specs.Answer.{shown_nulls, show_checked, show_if, show_answer}
use Rattle.show_row.specs.Calls.{show_number, show_listed, row_out, nulls_out, screen_bytes, ShowPromise}
use Rattle.show_row.specs.Low.{LowShown}
use Rattle.show_row.proofs.Promised.{promised}

show-listed : (t rs p : List ℕ) (used root room : ℕ) → show_listed (show_number (show_answer t rs p used root room)) ≡ true
unfolding show_answer
show-listed t rs p used root room = go (check_answer t rs p used root) refl
  where
    listed_of : (b c d e n : Bool) (x : ℕ) → show_listed (show_number (cond b (show.Refused 8) (cond c (show.Refused 9)
        (cond d (cond e (show.Refused 14) (cond n show.NoRow (show.Row x))) (show.Refused 17))))) ≡ true
    listed_of true c d e n x = refl
    listed_of false true d e n x = refl
    listed_of false false false e n x = refl
    listed_of false false true true n x = refl
    listed_of false false true false true x = refl
    listed_of false false true false false x = refl

    go : (a : CheckAnswer) → check_answer t rs p used root ≡ a
        → show_listed (show_number (show_if a (show_checked t rs p used root room))) ≡ true
    go (check.Refused k) e = refusal_listed 0 t rs p used root (8 ∷ 9 ∷ 14 ∷ 17 ∷ 256 ∷ 257 ∷ []) k e
    go check.Accepted e =
        listed_of (ltb 4096 (tree_count rs root)) (ltb 128 (length (minterms (aexpr_at rs p used) root)))
        (plain_screen t (aexpr_at rs p used) root) (ltb (room / 16) (length t))
        (nothing_passes (aexpr_at rs p used) (minterms (aexpr_at rs p used) root))
        (shown_nulls (aexpr_at rs p used) (minterms (aexpr_at rs p used) root) (length t))

-- r is what the layer below answered, a the case that the call is in
pub show-all : (t rs p : List ℕ) (used root : ℕ) (old row : List ℕ) (n : ℕ) (r a : ShowAnswer) → r ≡ a
    → r ≡ show_answer t rs p used root (length old) → row ≡ row_out r (screen_bytes t rs p used root) old
    → LowShown r t rs p used root
    → (show_number a ≡ show_number (show_answer t rs p used root (length old)))
    × ((show_listed (show_number a) ≡ true)
    × ((row ≡ row_out (show_answer t rs p used root (length old)) (screen_bytes t rs p used root) old)
    × ((nulls_out a n ≡ nulls_out (show_answer t rs p used root (length old)) n)
    × ShowPromise t rs p used root (show_number a) old row (nulls_out a n))))
show-all t rs p used root old row n r a q e w l =
    let g : a ≡ show_answer t rs p used root (length old) = sym q ∙ e in
    let v : row ≡ row_out a (screen_bytes t rs p used root) old =
    w ∙ ap (λ x. row_out x (screen_bytes t rs p used root) old) q in (
      ap show_number g,
      (
        subst (λ x. show_listed (show_number x) ≡ true) (sym g) (show-listed t rs p used root (length old)),
        (
          v ∙ ap (λ x. row_out x (screen_bytes t rs p used root) old) g,
          (
            ap (λ x. nulls_out x n) g,
            subst (λ x. ShowPromise t rs p used root (show_number a) old x (nulls_out a n)) (sym v)
                (promised t rs p used root a old n g (subst (λ x. LowShown x t rs p used root) q l)),
          ),
        ),
      ),
    )
