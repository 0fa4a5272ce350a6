-- What the call promises of a screen, from what is promised of its numbers.
use mathlib.Core.Path.{◌≡◌, refl, sym, ◌∙◌, ap, subst, fun_ext}
use mathlib.Core.Bool.{Bool, true, false, not, cond, ◌&&◌, ◌||◌, true≢false, and-eq-true_iff}
use mathlib.Core.List.{List}
use mathlib.Core.Option.{Option, none, some}
use Prim.Native.Nat.{ℕ, ◌*◌, ◌/◌, ◌≤◌, ◌<◌}
use native.Mathlib.Omega.{arith}
use lib.Dec.{ltb, eqb}
use lib.ListN.{length, get_or, take}
use borrow.Author.Tests.{eqb-true}
use Rattle.checking.specs.Checked.{Checked, CheckedIn}
use Rattle.truth.specs.AExpr.{AExpr}
use Rattle.truth.specs.FromBytes.{aexpr_at, null_marked}
use Rattle.constraints.specs.Payload as values
use Rattle.merge.specs.Minterms.{minterms}
use Rattle.merge.specs.Collect.{is_in}
use Rattle.merge.specs.Emit.{resolved}
use Rattle.merge.specs.Plain.{reads_only_numbers, plain_conjuncts, plain_screen}
use Rattle.merge.specs.Demand.{Row}
use Rattle.masks.specs.Masks.{mask_to}
use Rattle.masks.proofs.Bits.{mask_bit}
use Rattle.judge_lines.specs.Lines.{nothing_passes}
use Rattle.places.specs.Places.{whole_at, half_at, place_key, places_row, places_ok}
use Rattle.row_shown.specs.Shown.{null_shown}
use Rattle.show_row.specs.ShowAnswer.{ShowAnswer}
use Rattle.show_row.specs.ShowAnswer as show
use Rattle.show_row.specs.Answer.{collected_of, shown_nulls, show_answer}
use Rattle.show_row.specs.Calls.{show_number, nulls_out, ShowPromise}
use Rattle.show_row.proofs.Reading.{lines-read, entered-have}
use Rattle.numbered_screen.specs.Numbered.{Numbered}
use Rattle.symbol_screens.specs.Rewriting.{lent}
use Rattle.symbol_screens.specs.Rows.{IsRowWith}
use Rattle.plain_rows.proofs.Rows as rows
use Rattle.plain_symbols.proofs.Refusals.{plain-numbers, PlainWith}
use Rattle.show_symbols.specs.Promise.{ShowPromiseWith}
use Rattle.show_symbols.proofs.Answers.{row_of, number-checked, show-numbers}

-- A refusal promises nothing, and leaves the row.
pub promise_refused : (text t rs p : List ℕ) (used root k : ℕ) (old : List ℕ) (nulls : ℕ) → k < 256
    → ShowPromiseWith text t rs p used root k old old nulls
promise_refused text t rs p used root k old nulls small =
    record {
      plain = λ e. absurd (omega (arith, e, small));
      is = λ e. absurd (omega (arith, e, small));
      passing = λ e. absurd (omega (arith, e, small));
      shaped = λ e. absurd (omega (arith, e, small));
      nothing = λ e. absurd (omega (arith, e, small));
      size = refl;
      behind = λ i h. refl;
      untouched = λ e. refl;
    }

-- A column that did not enter is null.
out_null : (b d : Bool) → b ≡ false → (not b || d) ≡ true
out_null true d e = absurd (true≢false e)
out_null false d e = refl

-- The null marks where a row is shown.
marks : (b c : Bool) (m old : ℕ) → show_number (cond b (show.Refused 14) (cond c show.NoRow (show.Row m))) ≡ 257
    → nulls_out (cond b (show.Refused 14) (cond c show.NoRow (show.Row m))) old ≡ m
marks true c m old e = absurd (omega (arith, e))
marks false true m old e = absurd (omega (arith, e))
marks false false m old e = refl

module _ (text t rs p : List ℕ) (used root room : ℕ) (ok : CheckedIn (lent text) t rs p used root)
    (q : PlainWith text t rs p used root) (table records : List ℕ) (are : Numbered t rs used table records) where
  abbrev S : ℕ → AExpr ℕ
  S n = aexpr_at records p used n

  checks : Checked table records p used root
  checks = number-checked text t rs p used root room table records are q

  -- A Text column does not enter.
  abbrev NoText : ℕ → Type 0
  NoText c = eqb (get_or t c 0) 4 ≡ false

  plain-number : plain_screen table (aexpr_at records p used) root ≡ true
  plain-number =
      ap (λ (Q : ℕ → AExpr ℕ). plain_screen table Q root) (rows.bits-same text t rs p used root ok q.plain table records are)
      ∙ plain-numbers t rs used table records are (aexpr_at rs p used) root q.plain

  entered : (c : ℕ) → is_in c (collected_of (aexpr_at records p used) (minterms (aexpr_at records p used) root)).order ≡ true → NoText c
  entered =
      entered-have table records p used root checks NoText (minterms (aexpr_at records p used) root)
      ((and-eq-true_iff (reads_only_numbers table S root) (plain_conjuncts S (minterms S root))).0 plain-number).1
      (lines-read table records p used root checks NoText
      (rows.root-no_text text t rs p used root ok q.plain table records are))

  text_out : (c : ℕ) → eqb (get_or t c 0) 4 ≡ true
      → is_in c (collected_of (aexpr_at records p used) (minterms (aexpr_at records p used) root)).order ≡ false
  text_out c e = go (is_in c (collected_of (aexpr_at records p used) (minterms (aexpr_at records p used) root)).order) refl
    where
      go : (b : Bool) → is_in c (collected_of (aexpr_at records p used) (minterms (aexpr_at records p used) root)).order ≡ b → b ≡ false
      go true h = absurd (true≢false (sym e ∙ entered c h))
      go false h = refl

  -- In the row shown it is null.
  text-null : (row : List ℕ) (nulls old c : ℕ) → nulls ≡ nulls_out (show_answer table records p used root room) old
      → show_number (show_answer table records p used root room) ≡ 257 → c < length t → eqb (get_or t c 0) 4 ≡ true
      → places_row row nulls c ≡ none
  unfolding places_row shown_nulls
  text-null row nulls old c e n l h =
      ap (λ b. cond b none (some (place_key (whole_at row c) (half_at row c))))
      (ap (λ k. null_marked k c) (e ∙ ap (λ a. nulls_out a old) form ∙ marks (ltb (room / 16) (length table))
      (nothing_passes (aexpr_at records p used) (minterms (aexpr_at records p used) root))
      (shown_nulls (aexpr_at records p used) (minterms (aexpr_at records p used) root) (length table)) old (sym (ap show_number form) ∙ n))
      ∙ mask_bit (null_shown (collected_of (aexpr_at records p used) (minterms (aexpr_at records p used) root))) (length table) c
      (subst (λ k. c < k) (sym are.columns) l)
      ∙ out_null _ _ (text_out c h))
    where
      form : show_answer table records p used root room ≡ row_of (aexpr_at records p used) root room (length table)
      form = show-numbers text t rs p used root room table records are q

  module _ (r old : ℕ) (before row : List ℕ) (nulls : ℕ) (e : r ≡ show_number (show_answer table records p used root room))
      (f : nulls ≡ nulls_out (show_answer table records p used root room) old)
      (w : ShowPromise table records p used root r before row nulls) where
    shown-cut : r ≡ 257 → rows.cut text t rs p used root ok q.plain table records are (places_row row nulls) ≡ places_row row nulls
    shown-cut n = fun_ext (λ c. go c (eqb (get_or t c 0) 4) refl)
      where
        go : (c : ℕ) (b : Bool) → eqb (get_or t c 0) 4 ≡ b → cond b none (places_row row nulls c) ≡ places_row row nulls c
        go c true h =
            sym (text-null row nulls old c f (sym e ∙ n)
            (rows.text-column text t rs p used root ok q.plain table records are c h) h)
        go c false h = refl

    pub promise_told : ShowPromiseWith text t rs p used root r before row nulls
    promise_told =
        record {
          plain = λ n. q.plain;
          is = λ n. subst (λ (x : Row). IsRowWith t (aexpr_at rs p used) root x) (shown-cut n)
              (rows.row-of_screen text t rs p used root ok q.plain table records are (places_row row nulls) (w.is n));
          passing = λ n. rows.passes-true text t rs p used root ok q.plain table records are (places_row row nulls) ∙ w.passing n;
          shaped = λ n. subst (λ k. places_ok k (take (16 * k) row) nulls ≡ true) are.columns (w.shaped n);
          nothing = λ n x is h. w.nothing n x (rows.row-of_numbers text t rs p used root ok q.plain table records are x is)
              (sym (rows.passes-true text t rs p used root ok q.plain table records are x) ∙ h);
          size = w.size;
          behind = λ i h. w.behind i (subst (λ k. 16 * k ≤ i) (sym are.columns) h);
          untouched = w.untouched;
        }
