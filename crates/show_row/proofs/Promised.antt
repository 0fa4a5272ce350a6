-- What the call promises, from the answer.
use mathlib.Core.Path.{◌≡◌, refl, sym, ◌∙◌, ap, subst}
use mathlib.Core.Bool.{Bool, true, false, not, cond, ◌||◌, true≢false, and-eq-true_iff}
use mathlib.Core.List.{List}
use mathlib.Core.Option.{none, some}
use Prim.Native.Nat.{ℕ, ◌*◌, ◌/◌, ◌^◌, ◌≤◌, ◌<◌}
use native.Mathlib.Omega.{arith}
use lib.Dec.{ltb}
use lib.ListN.{length, take}
use borrow.Author.Tests.{ltb-false}
use Rattle.records.proofs.Loops.{all_holds}
use Rattle.checking.specs.Check.{check_answer}
use Rattle.checking.specs.Checked.{Checked}
use Rattle.checking.specs.Tree.{tree_count}
use Rattle.checking.specs.Answer.{CheckAnswer}
use Rattle.checking.specs.Answer as check
use Rattle.checking.proofs.Answers.{refused-numbered}
use Rattle.checking.proofs.Accepted.{checked}
use Rattle.truth.specs.AExpr.{AExpr}
use Rattle.truth.specs.FromBytes.{aexpr_at, truth_keys}
use Rattle.three_valued.specs.Logic.{is_true}
use Rattle.constraints.specs.Payload as values
use Rattle.merge.specs.Minterms.{minterms}
use Rattle.merge.specs.Collect.{Collected, is_in}
use Rattle.merge.specs.Emit.{resolved}
use Rattle.merge.specs.Plain.{is_number_column, plain_conjuncts, plain_screen, reads_column, reads_only_numbers}
use Rattle.merge.specs.Demand.{IsRow, NullOrTruth, passes}
use Rattle.merge.specs.Write.{splice}
use Rattle.merge.proofs.Demand.{payload}
use Rattle.merge.proofs.Typed.{reads_only}
use Rattle.merge.proofs.Unreached.{plain-unreached}
use Rattle.masks.specs.Masks.{mask_to}
use Rattle.masks.proofs.Bits.{mask_bit}
use Rattle.judge_lines.specs.Lines.{nothing_passes}
use Rattle.judge_lines.proofs.Rows.{screen_none}
use Rattle.places.specs.Places.{whole_at, half_at, place_key, places_row, places_ok}
use Rattle.row_shown.specs.Shown.{null_shown, place_shown, places_bytes}
use Rattle.show_row.specs.ShowAnswer.{ShowAnswer}
use Rattle.show_row.specs.ShowAnswer as show
use Rattle.show_row.specs.Answer.{collected_of, shown_nulls, shown_bytes, show_checked, show_if, show_answer}
use Rattle.show_row.specs.Calls.{show_number, row_out, nulls_out, screen_bytes, ShowPromise}
use Rattle.show_row.specs.Low.{LowShown}
use Rattle.show_row.proofs.Reading.{good, reads_in, lines-read, entered-have}
use Rattle.show_row.proofs.Back.{whole_back, half_back, half_low, row_has, behind-kept, row-size, row-shaped}
use Rattle.show_row.proofs.Passing.{witnessed, witness_passes, shown-is, unread_null}

module _ (t rs p : List ℕ) (used root : ℕ) where
  abbrev R : ℕ → AExpr ℕ
  R n = aexpr_at rs p used n

  abbrev lines : List ℕ
  lines = minterms (aexpr_at rs p used) root

  abbrev s : Collected ℕ
  s = collected_of (aexpr_at rs p used) (minterms (aexpr_at rs p used) root)

  -- ---- A row is shown.
  module _ (ok : Checked t rs p used root) (plain : plain_screen t R root ≡ true) (lives : nothing_passes R lines ≡ false)
      (old : List ℕ) (room : 16 * length t ≤ length old)
      (low : (c : ℕ) → c < length t → (place_shown s c).whole < 2 ^ 64) where
    abbrev row : List ℕ
    row = splice old 0 (places_bytes (place_shown s) (length t))

    abbrev nulls : ℕ
    nulls = mask_to (null_shown s) (length t)

    parts : (reads_only_numbers t R root ≡ true) × (plain_conjuncts R lines ≡ true)
    parts = (and-eq-true_iff (reads_only_numbers t R root) (plain_conjuncts R lines)).0 plain

    agrees : (c : ℕ) → c < length t → places_row row nulls c ≡ witnessed t rs p used root ok parts.1 lives c
    unfolding places_row
    agrees c h =
        ap (λ b. cond b none (some (place_key (whole_at row c) (half_at row c)))) (mask_bit (null_shown s) (length t) c h)
        ∙ ap (λ w. cond (null_shown s c) none (some (place_key w (half_at row c))))
        (whole_back (place_shown s) (length t) row (row_has (place_shown s) (length t) old) c h (low c h))
        ∙ ap (λ x. cond (null_shown s c) none (some (place_key (place_shown s c).whole x)))
        (half_back (place_shown s) (length t) row (row_has (place_shown s) (length t) old) c h
        (half_low (null_shown s) (resolved values.payload s) c))
        ∙ shown-is t rs p used root ok parts.1 lives c

    -- A column of another type did not enter.

    imp : (x y : Bool) → (not x || y) ≡ true → x ≡ true → y ≡ true
    imp true y h e = h
    imp false y h e = absurd (true≢false (sym e))

    numbers : (c : ℕ) → is_in c s.order ≡ true → c < length t → is_number_column t c ≡ true
    numbers =
        entered-have t rs p used root ok (λ c. c < length t → is_number_column t c ≡ true) lines parts.1
        (lines-read t rs p used root ok (λ c. c < length t → is_number_column t c ≡ true) (λ c e l.
        imp (reads_column R root c) (is_number_column t c)
        (all_holds (λ i. not (reads_column R root i) || is_number_column t i) c (length t) l parts.0) e))

    others : (c : ℕ) → c < length t → is_number_column t c ≡ false → is_in c s.order ≡ false
    others c l e = go (is_in c s.order) refl
      where
        go : (b : Bool) → is_in c s.order ≡ b → b ≡ false
        go true h = absurd (true≢false (sym (numbers c h l) ∙ e))
        go false h = refl

    shown-row : IsRow t R root (places_row row nulls)
    shown-row =
        record {
          truths = λ c l e. subst NullOrTruth
              (sym (agrees c l ∙ unread_null t rs p used root ok parts.1 lives c (others c l e))) tt;
          typed = λ e. absurd (true≢false (sym e ∙ plain-unreached R (good t rs p used root ok) root parts.1));
        }

    shown-passes : passes rs p used root (places_row row nulls) ≡ true
    shown-passes =
        ap (λ c. is_true c.truth) (reads_only payload truth_keys R (good t rs p used root ok) (places_row row nulls)
        (witnessed t rs p used root ok parts.1 lives) root (λ c e. agrees c (reads_in t rs p used root ok root c e)))
        ∙ witness_passes t rs p used root ok parts.1 lives

  -- ---- What an answer says of the screen; a refusal's number is below 256.
  abbrev Says : ShowAnswer → ℕ → Type 0
  Says (show.Refused k) room = k < 256
  Says show.NoRow room = Checked t rs p used root × (plain_screen t R root ≡ true) × (nothing_passes R lines ≡ true)
  Says (show.Row nulls) room =
      Checked t rs p used root × (plain_screen t R root ≡ true) × (nothing_passes R lines ≡ false)
      × (length t ≤ room / 16) × (nulls ≡ mask_to (null_shown s) (length t))

  says : (room : ℕ) → Says (show_answer t rs p used root room) room
  unfolding show_answer shown_nulls
  says room = go (check_answer t rs p used root) refl
    where
      row-says : Checked t rs p used root → plain_screen t R root ≡ true → length t ≤ room / 16
          → (b : Bool) → nothing_passes R lines ≡ b
          → Says (cond b show.NoRow (show.Row (mask_to (null_shown s) (length t)))) room
      row-says ok h l true e = (ok, h, e)
      row-says ok h l false e = (ok, h, e, l, refl)

      room_says : Checked t rs p used root → plain_screen t R root ≡ true → (b : Bool) → ltb (room / 16) (length t) ≡ b
          → Says (cond b (show.Refused 14) (cond (nothing_passes R lines) show.NoRow
          (show.Row (mask_to (null_shown s) (length t))))) room
      room_says ok h true e = omega arith
      room_says ok h false e = row-says ok h (ltb-false (room / 16) (length t) e) (nothing_passes R lines) refl

      plain-says : Checked t rs p used root → (b : Bool) → plain_screen t R root ≡ b
          → Says (cond b (cond (ltb (room / 16) (length t)) (show.Refused 14) (cond (nothing_passes R lines) show.NoRow
          (show.Row (mask_to (null_shown s) (length t))))) (show.Refused 17)) room
      plain-says ok true e = room_says ok e (ltb (room / 16) (length t)) refl
      plain-says ok false e = omega arith

      checked-says : Checked t rs p used root → (b c : Bool)
          → Says (cond b (show.Refused 8) (cond c (show.Refused 9) (cond (plain_screen t R root)
          (cond (ltb (room / 16) (length t)) (show.Refused 14) (cond (nothing_passes R lines) show.NoRow
          (show.Row (mask_to (null_shown s) (length t))))) (show.Refused 17)))) room
      checked-says ok true c = omega arith
      checked-says ok false true = omega arith
      checked-says ok false false = plain-says ok (plain_screen t R root) refl

      go : (a : CheckAnswer) → check_answer t rs p used root ≡ a → Says (show_if a (show_checked t rs p used root room)) room
      go (check.Refused k) e = let n = refused-numbered t rs p used root k e in omega (arith, n.1)
      go check.Accepted e =
          checked-says (checked t rs p used root e) (ltb 4096 (tree_count rs root))
          (ltb 128 (length (minterms (aexpr_at rs p used) root)))

  promised_of : (a : ShowAnswer) (old : List ℕ) (n : ℕ) → Says a (length old) → LowShown a t rs p used root
      → ShowPromise t rs p used root (show_number a) old (row_out a (screen_bytes t rs p used root) old) (nulls_out a n)
  unfolding shown_bytes
  promised_of (show.Refused k) old n h l =
      record {
        plain = λ e. absurd (omega (arith, h, e));
        is = λ e. absurd (omega (arith, h, e));
        passing = λ e. absurd (omega (arith, h, e));
        shaped = λ e. absurd (omega (arith, h, e));
        nothing = λ e. absurd (omega (arith, h, e));
        size = refl;
        behind = λ i k. refl;
        untouched = λ e. refl;
      }
  promised_of show.NoRow old n h l =
      record {
        plain = λ e. h.1;
        is = λ e. absurd (omega (arith, e));
        passing = λ e. absurd (omega (arith, e));
        shaped = λ e. absurd (omega (arith, e));
        nothing = λ e r is g. screen_none t rs p used root h.0 h.1 h.2 r g;
        size = refl;
        behind = λ i k. refl;
        untouched = λ e. refl;
      }
  promised_of (show.Row nulls) old n h l =
      let room : 16 * length t ≤ length old = omega (arith, h.3) in
      record {
        plain = λ e. h.1;
        is = λ e. subst (λ m. IsRow t R root (places_row (splice old 0 (places_bytes (place_shown s) (length t))) m)) (sym h.4)
            (shown-row h.0 h.1 h.2 old room l);
        passing = λ e. subst (λ m. passes rs p used root (places_row (splice old 0 (places_bytes (place_shown s) (length t))) m)
            ≡ true) (sym h.4) (shown-passes h.0 h.1 h.2 old room l);
        shaped = λ e. subst (λ m. places_ok (length t) (take (16 * length t)
            (splice old 0 (places_bytes (place_shown s) (length t)))) m ≡ true) (sym h.4)
            (row-shaped (null_shown s) (resolved values.payload s) (length t) old room l);
        nothing = λ e. absurd (omega (arith, e));
        size = row-size (place_shown s) (length t) old room;
        behind = λ i k. behind-kept (place_shown s) (length t) old i k;
        untouched = λ e. absurd (omega (arith, e));
      }

  -- What the call promises of the answer that a match has told.
  pub promised : (a : ShowAnswer) (old : List ℕ) (n : ℕ) → a ≡ show_answer t rs p used root (length old)
      → LowShown a t rs p used root
      → ShowPromise t rs p used root (show_number a) old (row_out a (screen_bytes t rs p used root) old) (nulls_out a n)
  promised a old n e l = promised_of a old n (subst (λ x. Says x (length old)) (sym e) (says (length old))) l
