-- What rows say by their numbers is what the row test says of them. Assumes nothing.
use mathlib.Core.Path.{◌≡◌, refl, sym, ◌∙◌, ap, subst}
use mathlib.Core.Bool.{Bool, true, false, cond}
use mathlib.Core.List.{List}
use Prim.Native.Nat.{ℕ, zero, suc, ◌+◌, ◌*◌, ◌/◌, ◌%◌, ◌≤◌, ◌<◌}
use native.Mathlib.Omega.{arith}
use lib.Dec.{leb, eqb}
use lib.ListN.{length, get_or}
use borrow.Author.Tests.{le-ltb, eqb-true}
use Rattle.records.specs.Bytes.{all}
use Rattle.records.proofs.Laws.{and_left, and_right}
use Rattle.records.proofs.Loops.{all_holds}
use Rattle.checking.specs.Checked.{CheckedIn}
use Rattle.checking.specs.Check.{sizes_ok_in}
use Rattle.checking.specs.Tree.{tree_count}
use Rattle.checking.proofs.Accepted.{checked-accepted_in, checked-used_in}
use Rattle.three_valued.specs.declared.logic.Truth.{Truth}
use Rattle.row_test.specs.Answer.{RowAnswer}
use Rattle.row_test.specs.Answer.{Refused, Tested}
use Rattle.masks.specs.Block.{chain_row}
use Rattle.chain_rows.specs.Chain.{row_at, is_tested}
use Rattle.chain_rows.specs.Classes.{truth_class, class_of, Judged}
use Rattle.symbol_screens.specs.Placed.{place_count}
use Rattle.symbol_screens.specs.Reading.{held_at}
use Rattle.symbol_screens.specs.Rewriting.{lent}
use Rattle.symbol_screens.specs.Rows.{row_keys_with, truth_with}
use Rattle.symbol_rows.specs.RowTestWith.{row_fault_with, checked_answer_with, test_row_answer_with}
use Rattle.symbol_row_test.proofs.AnswersWith.{columns-small}
use Rattle.ranked_screen.specs.Screen.{Accepted}
use Rattle.ranked_screen.proofs.Reading.{accepted-sizes}
use Rattle.text_order.specs.Codes.{Codes}
use Rattle.ranked_chain.specs.RankedChain.{ChainRanks}
use Rattle.ranked_chain.specs.Chunks.{EveryRow, RowTruths, ClassesOf}
use Rattle.ranked_chain.proofs.RankedRow.{ranked-row}
use Rattle.ranked_chain.proofs.RanksFit.{ranks_evaluable}
use Rattle.ranked_chain.proofs.Ranking.{places-few}
use Rattle.symbol_chain.specs.ChainWith.{answer_at_with, row_fits_with}

pub accepted : (text t rs p : List ℕ) (used root : ℕ) → CheckedIn (lent text) t rs p used root → Accepted text rs p used
accepted text t rs p used root ok = record { table = t; root = root; checked = ok }

all_same : (p q : ℕ → Bool) (n : ℕ) → ((i : ℕ) → p i ≡ q i) → all p n ≡ all q n
unfolding all
all_same p q zero h = refl
all_same p q (suc n) h = rw (all_same p q n h, h n)

-- ---- Rows that fit.
module _ (text t values nulls : List ℕ) (fit : all (row_fits_with text t values nulls) (length nulls) ≡ true) where
  pub no_fault : (r : ℕ) → r < length nulls → row_fault_with text t (row_at t values r) (get_or nulls r 0) ≡ 0
  unfolding row_fits_with
  no_fault r h = eqb-true _ 0 (all_holds (row_fits_with text t values nulls) r (length nulls) h fit)

module _ (text t rs p : List ℕ) (used root : ℕ) (values nulls : List ℕ) (ok : CheckedIn (lent text) t rs p used root)
    (small : tree_count rs root ≤ 4096) where
  abbrev answers : ℕ → RowAnswer
  answers r = answer_at_with text t rs p used root values nulls r

  -- a row is tested exactly if it fits
  fits-tested : (r : ℕ) → row_fits_with text t values nulls r ≡ is_tested (answers r)
  unfolding answer_at_with test_row_answer_with checked_answer_with row_fits_with
  fits-tested r =
      rw (checked-accepted_in (lent text) t rs p used root ok, le-ltb 4096 (tree_count rs root) small)
      (go (eqb (row_fault_with text t (row_at t values r) (get_or nulls r 0)) 0) _ _)
    where
      go : (b : Bool) (x : Truth) (k : ℕ) → b ≡ is_tested (cond b (Tested x) (Refused k))
      go true x k = refl
      go false x k = refl

  pub all_tested : all (row_fits_with text t values nulls) (length nulls) ≡ all (λ i. is_tested (answers i)) (length nulls)
  all_tested = all_same (row_fits_with text t values nulls) (λ i. is_tested (answers i)) (length nulls) fits-tested

  abbrev pub truth_of : ℕ → Truth
  truth_of r = truth_with text (held_at rs p used) (row_keys_with text t (row_at t values r) (get_or nulls r 0)) root

  module _ (fit : all (row_fits_with text t values nulls) (length nulls) ≡ true) where
    tested-is : (r : ℕ) → r < length nulls → answers r ≡ Tested (truth_of r)
    unfolding answer_at_with test_row_answer_with checked_answer_with
    tested-is r h =
        rw (
          checked-accepted_in (lent text) t rs p used root ok,
          le-ltb 4096 (tree_count rs root) small,
          no_fault text t values nulls fit r h,
        )

    pub judged-by : (classes : List ℕ) → ClassesOf truth_of classes (length nulls) → Judged answers classes (length nulls)
    unfolding Judged ClassesOf
    judged-by classes s r h = s r h ∙ ap class_of (sym (tested-is r h))

    module _ (bytes : (q : ℕ) → get_or text q 0 < 256) (C out pool : List ℕ) (codes : Codes text C)
        (ranks : ChainRanks text rs p used C out pool) where
      narrow : length t ≤ 64
      narrow = columns-small text t rs p used root ok

      pub row-truths : RowTruths t C values nulls out pool root truth_of
      unfolding chain_row row_at
      row-truths =
          record {
            truths = λ r h block long told.
                sym (ranked-row text t rs p used root ok (places-few text rs p used (accepted text t rs p used root ok)) narrow bytes C
                out pool codes ranks (chain_row (length t) values r) (get_or nulls r 0) (no_fault text t values nulls fit r h) block long told);
          }

      -- the pool has whole values
      whole : length p % 8 ≡ 0
      unfolding sizes_ok_in
      whole =
          eqb-true (length p % 8) 0
          (and_left (eqb (length p % 8) 0) _ (and_right (leb used (length rs / 16)) _ (and_right (leb used 4096) _ ok.sizes)))

      pub every-row : 0 < length nulls → 16 * used ≤ length out → length pool ≡ 2 * length p → EveryRow (length t) out pool root
      every-row first long twice =
          let u = checked-used_in (lent text) t rs p used root ok in
          let r = ok.root-used in
          let s = (accepted-sizes text rs p used (accepted text t rs p used root ok)).pool-low in
          let w = whole in
          record {
            small = omega (arith, u, r);
            room = omega (arith, long, r);
            pooled = omega (arith, s, twice);
            even = omega (arith, w, twice);
            evaluable = λ row e.
                ranks_evaluable text t rs p used root ok ranks.wide out pool ranks.records (omega (arith, twice)) (omega (arith, twice))
                (row_at t values 0) (get_or nulls 0 0) (no_fault text t values nulls fit 0 first) row e long;
          }
