-- The answer of the hedge list with a text pool, one law for each way it ends.
use mathlib.Core.Path.{◌≡◌, refl, sym, ◌∙◌, ap}
use mathlib.Core.Bool.{Bool, true, false, cond, ◌&&◌}
use mathlib.Core.List.{List}
use Prim.Native.Nat.{ℕ, ◌*◌, ◌/◌, ◌≤◌, ◌<◌, min}
use native.Mathlib.Omega.{arith}
use lib.Dec.{ltb, leb, eqb}
use lib.ListN.{length}
use borrow.Author.Tests.{lt-ltb, le-ltb, le-leb, lt-leb, eq-eqb, ne_eqb}
use Rattle.records.specs.Bytes.{all}
use Rattle.checking.specs.Check.{check_answer_in}
use Rattle.checking.specs.Tree.{tree_count}
use Rattle.checking.specs.Answer as check
use Rattle.tally.specs.declared.Tally.{Tally}
use Rattle.hedge.specs.Answer.{HedgeAnswer}
use Rattle.hedge.specs.Answer.{Refused}
use Rattle.chain_rows.specs.Chain.{is_tested}
use Rattle.hedge.specs.Hedge.{counts_answer, rows_answer, room_ok, list_if}
use Rattle.symbol_screens.specs.Rewriting.{lent}
use Rattle.symbol_chain.specs.ChainWith.{answer_at_with}
use Rattle.symbol_hedge.specs.HedgeWith.{checked_hedge_with, hedge_answer_with, hedge_bytes_with}

module _ (text t rs p : List ℕ) (used root : ℕ) (values nulls : List ℕ) (bytes : ℕ) (tally : Tally) (tree : ℕ)
    (counted : tree ≡ min (tree_count rs root) 4097) where
  abbrev answer : HedgeAnswer
  answer = checked_hedge_with text t rs p used root values nulls bytes tally

  abbrev n : ℕ
  n = length nulls

  pub tree-refused : 4096 < tree → Refused 8 ≡ answer
  unfolding checked_hedge_with
  tree-refused h = rw (lt-ltb 4096 (tree_count rs root) (omega (arith, counted, h)))

  module _ (small : tree ≤ 4096) where
    few : ltb 4096 (tree_count rs root) ≡ false
    few = le-ltb 4096 (tree_count rs root) (omega (arith, counted, small))

    pub rows-refused : 1024 < n → Refused 20 ≡ answer
    unfolding checked_hedge_with room_ok
    rows-refused h = rw (few, lt-leb n 1024 h)

    module _ (rows : n ≤ 1024) where
      pub places-refused : bytes / 2 < n → Refused 20 ≡ answer
      unfolding checked_hedge_with room_ok
      places-refused h = rw (few, le-leb n 1024 rows, lt-leb n (bytes / 2) h)

      module _ (places : n ≤ bytes / 2) where
        pub values-refused : (length values ≡ 8 * length t * n → ⊥) → Refused 12 ≡ answer
        unfolding checked_hedge_with room_ok
        values-refused h = rw (few, le-leb n 1024 rows, le-leb n (bytes / 2) places, ne_eqb _ _ h)

        module _ (long : length values ≡ 8 * length t * n) where
          judged : rows_answer (answer_at_with text t rs p used root values nulls) n tally ≡ answer
          unfolding checked_hedge_with room_ok
          judged = rw (few, le-leb n 1024 rows, le-leb n (bytes / 2) places, eq-eqb _ _ long)

          pub row-refused : all (λ i. is_tested (answer_at_with text t rs p used root values nulls i)) n ≡ false → Refused 13 ≡ answer
          unfolding rows_answer
          row-refused e = sym (rw e) ∙ judged

          pub rows-listed : (r : HedgeAnswer) → all (λ i. is_tested (answer_at_with text t rs p used root values nulls i)) n ≡ true
              → r ≡ counts_answer (answer_at_with text t rs p used root values nulls) n tally → r ≡ answer
          unfolding rows_answer
          rows-listed r e er = er ∙ sym (rw e) ∙ judged

module _ (text t rs p : List ℕ) (used root : ℕ) (values nulls old : List ℕ) (tally : Tally) where
  pub screen_refused : (k : ℕ) → check_answer_in (lent text) t rs p used root ≡ check.Refused k
      → Refused k ≡ hedge_answer_with text t rs p used root values nulls (length old) tally
  unfolding hedge_answer_with
  screen_refused k e = rw e

  pub refused-bytes : (k : ℕ) → check_answer_in (lent text) t rs p used root ≡ check.Refused k
      → old ≡ hedge_bytes_with text t rs p used root values nulls old tally
  unfolding hedge_bytes_with hedge_answer_with
  refused-bytes k e = rw e

  pub screen_accepted : (r : HedgeAnswer) → check_answer_in (lent text) t rs p used root ≡ check.Accepted
      → r ≡ checked_hedge_with text t rs p used root values nulls (length old) tally
      → r ≡ hedge_answer_with text t rs p used root values nulls (length old) tally
  unfolding hedge_answer_with
  screen_accepted r e er = rw e er

  pub accepted-bytes : (r : HedgeAnswer) (out : List ℕ) → check_answer_in (lent text) t rs p used root ≡ check.Accepted
      → r ≡ checked_hedge_with text t rs p used root values nulls (length old) tally
      → out ≡ list_if r old (answer_at_with text t rs p used root values nulls) (length nulls)
      → out ≡ hedge_bytes_with text t rs p used root values nulls old tally
  unfolding hedge_bytes_with
  accepted-bytes r out e er eo =
      eo ∙ ap (λ a. list_if a old (answer_at_with text t rs p used root values nulls) (length nulls)) (screen_accepted r e er)
