-- The answer by the steps of the code: checking, 8, 9, 17, 14, then the row.
use mathlib.Core.Path.{◌≡◌, refl, sym, ◌∙◌, ap, subst}
use mathlib.Core.Bool.{Bool, true, false, cond}
use mathlib.Core.List.{List, map}
use Prim.Native.Nat.{ℕ, ◌/◌, ◌≤◌, ◌<◌, ◌^◌}
use native.Mathlib.Omega.{arith}
use lib.Dec.{ltb}
use lib.ListN.{length}
use borrow.Author.Tests.{lt-ltb, le-ltb}
use Rattle.checking.specs.Check.{check_answer}
use Rattle.checking.specs.Checked.{Checked}
use Rattle.checking.specs.Tree.{tree_count}
use Rattle.checking.specs.Answer as check
use Rattle.checking.proofs.Accepted.{checked}
use Rattle.truth.specs.FromBytes.{aexpr_of, aexpr_at}
use Rattle.constraints.specs.Payload.{payload}
use Rattle.merge.specs.Minterms.{minterms}
use Rattle.merge.specs.Classify.{Conjunct, classify}
use Rattle.merge.specs.Collect.{begin, collect}
use Rattle.merge.specs.Emit.{merge_filter_constraints}
use Rattle.merge.specs.Plain.{plain_screen}
use Rattle.masks.specs.Masks.{mask_to}
use Rattle.read_operands.specs.Walk.{walked, first_of}
use Rattle.read_operands.proofs.Walks.{first-length}
use Rattle.reading.proofs.Screens.{minterms-walked, conjuncts-used}
use Rattle.judge_lines.specs.Lines.{is_nothing}
use Rattle.row_shown.specs.Shown.{null_shown, place_shown, places_bytes}
use Rattle.show_row.specs.ShowAnswer.{ShowAnswer}
use Rattle.show_row.specs.ShowAnswer as show
use Rattle.show_row.specs.Answer.{shown_nulls, shown_bytes, row_answer, show_checked, show_if, show_answer}
use Rattle.show_row.specs.Calls.{row_out, screen_bytes}
use Rattle.show_row.specs.Low.{LowWholes, LowShown}

-- A screen that is refused in checking is refused.
pub show-refused : (t rs p : List ℕ) (used root room k : ℕ) → check_answer t rs p used root ≡ check.Refused k
    → show.Refused k ≡ show_answer t rs p used root room
unfolding show_answer
show-refused t rs p used root room k e = sym (ap (λ c. show_if c (show_checked t rs p used root room)) e)

-- The answer, the bytes and the whole parts are those of what is read of the conjuncts.
abbrev answer_of : List (Conjunct ℕ) → ℕ → ShowAnswer
answer_of l k =
    cond (is_nothing (merge_filter_constraints payload l)) show.NoRow
    (show.Row (mask_to (null_shown (collect payload l begin)) k))

abbrev LowOf : ShowAnswer → List (Conjunct ℕ) → ℕ → Type 0
LowOf (show.Refused j) l k = Unit {0}
LowOf show.NoRow l k = Unit {0}
LowOf (show.Row nulls) l k = (c : ℕ) → c < k → (place_shown (collect payload l begin) c).whole < 2 ^ 64

module _ (t rs p : List ℕ) (used root room : ℕ) (ok : check_answer t rs p used root ≡ check.Accepted) where
  good : Checked t rs p used root
  good = checked t rs p used root ok

  on : (b c d e : Bool) → ltb 4096 (tree_count rs root) ≡ b → ltb 128 (length (minterms (walked rs) root)) ≡ c
      → plain_screen t (aexpr_at rs p used) root ≡ d → ltb (room / 16) (length t) ≡ e
      → show_answer t rs p used root room ≡ cond b (show.Refused 8) (cond c (show.Refused 9)
      (cond d (cond e (show.Refused 14) (row_answer (aexpr_at rs p used) (minterms (aexpr_at rs p used) root) (length t)))
      (show.Refused 17)))
  unfolding show_answer
  on b c d e eb ec ed ee =
      ap (λ a. show_if a (show_checked t rs p used root room)) ok
      ∙ ap (λ x. cond x (show.Refused 8) (cond (ltb 128 (length (minterms (aexpr_at rs p used) root))) (show.Refused 9)
      (cond (plain_screen t (aexpr_at rs p used) root) (cond (ltb (room / 16) (length t)) (show.Refused 14)
      (row_answer (aexpr_at rs p used) (minterms (aexpr_at rs p used) root) (length t))) (show.Refused 17)))) eb
      ∙ ap (λ x. cond b (show.Refused 8) (cond x (show.Refused 9)
      (cond (plain_screen t (aexpr_at rs p used) root) (cond (ltb (room / 16) (length t)) (show.Refused 14)
      (row_answer (aexpr_at rs p used) (minterms (aexpr_at rs p used) root) (length t))) (show.Refused 17))))
      (ap (λ l. ltb 128 (length l)) (minterms-walked t rs p used root good) ∙ ec)
      ∙ ap (λ x. cond b (show.Refused 8) (cond c (show.Refused 9) (cond x (cond (ltb (room / 16) (length t)) (show.Refused 14)
      (row_answer (aexpr_at rs p used) (minterms (aexpr_at rs p used) root) (length t))) (show.Refused 17)))) ed
      ∙ ap (λ x. cond b (show.Refused 8) (cond c (show.Refused 9) (cond d (cond x (show.Refused 14)
      (row_answer (aexpr_at rs p used) (minterms (aexpr_at rs p used) root) (length t))) (show.Refused 17)))) ee

  pub show-8 : 4096 < tree_count rs root → show.Refused 8 ≡ show_answer t rs p used root room
  show-8 h =
      sym (on true (ltb 128 (length (minterms (walked rs) root))) (plain_screen t (aexpr_at rs p used) root)
      (ltb (room / 16) (length t)) (lt-ltb 4096 (tree_count rs root) h) refl refl refl)

  module _ (small : tree_count rs root ≤ 4096) where
    pub show-9 : 128 < length (minterms (walked rs) root) → show.Refused 9 ≡ show_answer t rs p used root room
    show-9 h =
        sym (on false true (plain_screen t (aexpr_at rs p used) root) (ltb (room / 16) (length t))
        (le-ltb 4096 (tree_count rs root) small) (lt-ltb 128 (length (minterms (walked rs) root)) h) refl refl)

    module _ (few : length (minterms (walked rs) root) ≤ 128) where
      pub show-17 : plain_screen t (aexpr_at rs p used) root ≡ false → show.Refused 17 ≡ show_answer t rs p used root room
      show-17 h =
          sym (on false false false (ltb (room / 16) (length t)) (le-ltb 4096 (tree_count rs root) small)
          (le-ltb 128 (length (minterms (walked rs) root)) few) h refl)

      module _ (plain : plain_screen t (aexpr_at rs p used) root ≡ true) where
        pub show-14 : room / 16 < length t → show.Refused 14 ≡ show_answer t rs p used root room
        show-14 h =
            sym (on false false true true (le-ltb 4096 (tree_count rs root) small)
            (le-ltb 128 (length (minterms (walked rs) root)) few) plain (lt-ltb (room / 16) (length t) h))

  -- The lines in an array, of a plain screen whose row has room.
  module _ (small : tree_count rs root ≤ 4096) (nodes : List ℕ) (n : ℕ)
      (are : first_of nodes n ≡ minterms (walked rs) root) (few : n ≤ 128)
      (plain : plain_screen t (aexpr_at rs p used) root ≡ true) (fits : length t ≤ room / 16) where
    said : map (classify (aexpr_of rs p)) (first_of nodes n) ≡ map (classify (aexpr_at rs p used)) (minterms (aexpr_at rs p used) root)
    said = ap (map (classify (aexpr_of rs p))) are ∙ sym (conjuncts-used t rs p used root good)

    pub show-row : row_answer (aexpr_of rs p) (first_of nodes n) (length t) ≡ show_answer t rs p used root room
    unfolding shown_nulls
    show-row =
        ap (λ l. answer_of l (length t)) said
        ∙ sym (on false false true false (le-ltb 4096 (tree_count rs root) small)
        (le-ltb 128 (length (minterms (walked rs) root)) (omega (arith, few, first-length nodes n, ap length are))) plain
        (le-ltb (room / 16) (length t) fits))

    pub row_is : shown_bytes (aexpr_of rs p) (first_of nodes n) (length t) ≡ screen_bytes t rs p used root
    unfolding shown_bytes
    row_is = ap (λ l. places_bytes (place_shown (collect payload l begin)) (length t)) said

    low_of : (r : ShowAnswer) → LowWholes r (aexpr_of rs p) (first_of nodes n) (length t) → LowShown r t rs p used root
    low_of (show.Refused k) h = tt
    low_of show.NoRow h = tt
    low_of (show.Row nulls) h =
        subst (λ l. (c : ℕ) → c < length t → (place_shown (collect payload l begin) c).whole < 2 ^ 64) said h

    -- What is ensured of the lines is ensured of the screen.
    pub show-plain : (r : ShowAnswer) (row old : List ℕ) → r ≡ row_answer (aexpr_of rs p) (first_of nodes n) (length t)
        → row ≡ row_out r (shown_bytes (aexpr_of rs p) (first_of nodes n) (length t)) old
        → LowWholes r (aexpr_of rs p) (first_of nodes n) (length t)
        → (r ≡ show_answer t rs p used root room) × ((row ≡ row_out r (screen_bytes t rs p used root) old)
        × LowShown r t rs p used root)
    show-plain r row old er ew el =
        (er ∙ show-row, (ew ∙ ap (λ b. row_out r b old) row_is, low_of r el))
