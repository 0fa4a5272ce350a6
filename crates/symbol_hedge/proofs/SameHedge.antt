-- The hedge list of a screen without Text is as ever, whatever text pool is lent.
use mathlib.Core.Path.{◌≡◌, refl, sym, ◌∙◌, ap, fun_ext}
use mathlib.Core.Bool.{cond}
use mathlib.Core.List.{List}
use Prim.Native.Nat.{ℕ, ◌*◌, ◌≤◌}
use native.Mathlib.Omega.{arith}
use lib.Dec.{ltb, eqb}
use lib.ListN.{length, get_or}
use borrow.Author.Tests.{le-leb}
use Rattle.checking.specs.Check.{check_answer, check_answer_in}
use Rattle.checking.specs.Tree.{tree_count}
use Rattle.tally.specs.declared.Tally.{Tally}
use Rattle.row_test.specs.Answer.{RowAnswer}
use Rattle.chain_rows.specs.Chain.{row_at, answer_at}
use Rattle.hedge.specs.Answer.{HedgeAnswer}
use Rattle.hedge.specs.Answer.{Refused}
use Rattle.hedge.specs.Hedge.{rows_answer, room_ok, checked_answer, answer_if, list_if, hedge_answer, hedge_bytes}
use Rattle.symbol_screens.specs.Rewriting.{lent}
use Rattle.symbol_screens.proofs.NumbersChecked.{NoText, check-same}
use Rattle.symbol_row_test.proofs.SameAnswers.{same_answer}
use Rattle.symbol_chain.specs.ChainWith.{answer_at_with}
use Rattle.symbol_hedge.specs.HedgeWith.{checked_hedge_with, hedge_answer_with, hedge_bytes_with}

module _ (text t rs p : List ℕ) (used root : ℕ) (values nulls : List ℕ) (short : length text ≤ 8192) (free : NoText t rs used) where
  same_at : (r : ℕ) → answer_at t rs p used root values nulls r ≡ answer_at_with text t rs p used root values nulls r
  unfolding answer_at answer_at_with
  same_at r = same_answer text t rs p (row_at t values r) (get_or nulls r 0) used root short free

  same_rows : answer_at t rs p used root values nulls ≡ answer_at_with text t rs p used root values nulls
  same_rows = fun_ext same_at

  pub same-hedge : (bytes : ℕ) (tally : Tally) →
      hedge_answer t rs p used root values nulls bytes tally ≡ hedge_answer_with text t rs p used root values nulls bytes tally
  unfolding hedge_answer hedge_answer_with checked_answer checked_hedge_with
  same-hedge bytes tally =
      λ i. answer_if (sym (check-same (lent text) t rs p used (le-leb (lent text) 8193 (omega (arith, short))) free root) i)
      (cond (ltb 4096 (tree_count rs root)) (Refused 8)
      (cond (room_ok (length nulls) bytes)
      (cond (eqb (length values) (8 * length t * length nulls)) (rows_answer (same_rows i) (length nulls) tally) (Refused 12))
      (Refused 20)))

  pub same-list : (old : List ℕ) (tally : Tally) →
      hedge_bytes t rs p used root values nulls old tally ≡ hedge_bytes_with text t rs p used root values nulls old tally
  unfolding hedge_bytes hedge_bytes_with
  same-list old tally = λ i. list_if (same-hedge (length old) tally i) old (same_rows i) (length nulls)
