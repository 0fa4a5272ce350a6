-- From what the code inside hands on to what the call promises.
-- Assumes nothing.
use mathlib.Core.Path.{◌≡◌, refl, sym, ◌∙◌, subst}
use mathlib.Core.Bool.{Bool, true, false, cond}
use mathlib.Core.List.{List, [], ◌∷◌}
use Prim.Native.Nat.{ℕ, ◌*◌, ◌≤◌}
use lib.Dec.{ltb, eqb}
use lib.ListN.{length}
use Rattle.records.specs.Bytes.{all}
use Rattle.checking.specs.Tree.{tree_count}
use Rattle.row_test.specs.Answer.{RowAnswer}
use Rattle.chain_rows.specs.Chain.{passes, is_false, is_unknown, is_tested}
use Rattle.row_list.specs.Numbers.{count}
use Rattle.checking.specs.Check.{check_answer_in}
use Rattle.checking.specs.Answer.{CheckAnswer}
use Rattle.checking.specs.Answer as check
use Rattle.checking.proofs.Answers.{refused-numbered-in}
use Rattle.tally.specs.declared.Tally.{Tally}
use Rattle.tally.specs.Sums.{sums_fit, added}
use Rattle.listed.proofs.Listed.{first-seven}
use Rattle.tally.proofs.Sums.{added-grown, added_none}
use Rattle.screen_hedge.specs.declared.Hedged.{Hedged}
use Rattle.hedge.specs.Answer.{HedgeAnswer}
use Rattle.hedge.specs.Answer.{Refused, Listed}
use Rattle.hedge.specs.Hedge.{sums_answer, counts_answer, rows_answer, room_ok, answer_if, hedge_number, tally_out}
use Rattle.symbol_screens.specs.Rewriting.{lent}
use Rattle.symbol_chain.specs.ChainWith.{answer_at_with}
use Rattle.symbol_hedge.specs.HedgeWith.{checked_hedge_with, hedge_answer_with, hedge_bytes_with}
use Rattle.screen_hedge.specs.Calls.{hedge_listed, passed_of, false_of, unknown_of, Numbered, HedgePromise}

-- the tally may grow by what the answer says
abbrev fits_of : Tally → HedgeAnswer → Bool
fits_of old (Refused k) = true
fits_of old (Listed p f u) = sums_fit old p f u

-- so what `add` leaves is the tally afterwards
tally_is : (old : Tally) (a : HedgeAnswer) → fits_of old a ≡ true
    → added old (passed_of a) (false_of a) (unknown_of a) ≡ tally_out a old
tally_is old (Refused k) e = added_none old
tally_is old (Listed p f u) e = sym (added-grown old p f u e)

-- a test picks one of two answers
pick : (P : HedgeAnswer → Type 0) (b : Bool) (x y : HedgeAnswer) → P x → P y → P (cond b x y)
pick P true x y h k = h
pick P false x y h k = k

sums_fit_lem : (tally : Tally) (p f u : ℕ) → fits_of tally (sums_answer tally p f u) ≡ true
unfolding sums_answer
sums_fit_lem tally p f u = go (sums_fit tally p f u) refl
  where
    go : (b : Bool) → sums_fit tally p f u ≡ b → fits_of tally (cond b (Listed p f u) (Refused 21)) ≡ true
    go true e = e
    go false e = refl

module _ (text t rs p : List ℕ) (used root : ℕ) (values nulls : List ℕ) (bytes : ℕ) (tally : Tally) where
  abbrev A : ℕ → RowAnswer
  A = answer_at_with text t rs p used root values nulls

  abbrev n : ℕ
  n = length nulls

  -- what holds of the refusals and of the sums' answer holds of the answer
  module _ (P : HedgeAnswer → Type 0) (seven : (k : ℕ) → 1 ≤ k → k ≤ 7 → P (Refused k)) (p8 : P (Refused 8))
      (p20 : P (Refused 20)) (p12 : P (Refused 12)) (p13 : P (Refused 13)) (sums : (a b c : ℕ) → P (sums_answer tally a b c)) where
    of_counts : P (counts_answer A n tally)
    unfolding counts_answer
    of_counts =
        sums (count (λ r. passes (A r)) n) (count (λ r. is_false (A r)) n) (count (λ r. is_unknown (A r)) n)

    of_rows : P (rows_answer A n tally)
    unfolding rows_answer
    of_rows = pick P (all (λ r. is_tested (A r)) n) (counts_answer A n tally) (Refused 13) of_counts p13

    abbrev long : Bool
    long = eqb (length values) (8 * length t * n)

    of_checked : P (checked_hedge_with text t rs p used root values nulls bytes tally)
    unfolding checked_hedge_with
    of_checked =
        pick P (ltb 4096 (tree_count rs root)) (Refused 8)
        (cond (room_ok n bytes) (cond long (rows_answer A n tally) (Refused 12)) (Refused 20)) p8
        (pick P (room_ok n bytes) (cond long (rows_answer A n tally) (Refused 12)) (Refused 20)
        (pick P long (rows_answer A n tally) (Refused 12) of_rows p12) p20)

    of_answer : P (hedge_answer_with text t rs p used root values nulls bytes tally)
    unfolding hedge_answer_with
    of_answer = go (check_answer_in (lent text) t rs p used root) refl
      where
        go : (a : CheckAnswer) → check_answer_in (lent text) t rs p used root ≡ a
            → P (answer_if a (checked_hedge_with text t rs p used root values nulls bytes tally))
        go (check.Refused k) e = let m = refused-numbered-in (lent text) t rs p used root k e in seven k m.0 m.1
        go check.Accepted e = of_checked

  answer_fits : fits_of tally (hedge_answer_with text t rs p used root values nulls bytes tally) ≡ true
  answer_fits =
      of_answer (λ a. fits_of tally a ≡ true) (λ k h g. refl) refl refl refl refl (λ a b c. sums_fit_lem tally a b c)

  sums_listed : (a b c : ℕ) → hedge_listed (hedge_number (sums_answer tally a b c)) ≡ true
  unfolding sums_answer
  sums_listed a b c = pick (λ x. hedge_listed (hedge_number x) ≡ true) (sums_fit tally a b c) (Listed a b c) (Refused 21) refl refl

  answer_listed : hedge_listed (hedge_number (hedge_answer_with text t rs p used root values nulls bytes tally)) ≡ true
  answer_listed =
      of_answer (λ a. hedge_listed (hedge_number a) ≡ true) (first-seven (8 ∷ 20 ∷ 12 ∷ 13 ∷ 21 ∷ 256 ∷ [])) refl refl refl refl sums_listed

pub promised : (text t rs p : List ℕ) (used root : ℕ) (values nulls : List ℕ) (h : Hedged) (old_list list : List ℕ)
    (old_tally tally : Tally) (old_count count : ℕ)
    → Numbered (hedge_answer_with text t rs p used root values nulls (length old_list) old_tally)
    (hedge_bytes_with text t rs p used root values nulls old_list old_tally) h list old_count count
    → tally ≡ added old_tally h.passed h.is_false h.unknown
    → HedgePromise text t rs p used root values nulls h.number old_list list old_tally tally old_count count
promised text t rs p used root values nulls h old_list list old_tally tally old_count count n g = (
  subst (λ k. hedge_listed k ≡ true) (sym n.0) (answer_listed text t rs p used root values nulls (length old_list) old_tally),
  n.0,
  n.4,
  g ∙ rw (n.1, n.2, n.3) (tally_is old_tally (hedge_answer_with text t rs p used root values nulls (length old_list) old_tally)
      (answer_fits text t rs p used root values nulls (length old_list) old_tally)),
  n.5,
)
