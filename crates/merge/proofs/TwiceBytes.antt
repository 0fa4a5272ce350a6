-- Rewriting the result of a rewriting answers unchanged (specs/Twice.antt has the statement).
use mathlib.Core.Path.{◌≡◌, refl, sym, ◌∙◌, ap, subst, fun_ext}
use mathlib.Core.Bool.{false, cond}
use mathlib.Core.List.{List, [], ◌∷◌, ◌++◌, map}
use mathlib.Core.Option.{none, some}
use Prim.Native.Nat.{ℕ}
use Rattle.checking.specs.Check.{check_answer}
use Rattle.checking.specs.Checked.{Checked}
use Rattle.checking.proofs.Accepted.{checked}
use Rattle.checking.specs.Answer as check
use Rattle.truth.specs.AExpr.{AExpr, Literal, WF}
use Rattle.truth.specs.Cell.{TruthKeys, truth_of_value}
use Rattle.three_valued.specs.declared.logic.Truth.TheVariants.{False}
use Rattle.truth.specs.FromBytes.{truth_keys}
use Rattle.constraints.proofs.Merges.{or_no}
use Rattle.constraints.specs.Comparisons.{ColumnComparison}
use Rattle.constraints.specs.Scalars.{Scalars}
use Rattle.constraints.specs.Values.{is_empty}
use Rattle.merge.specs.declared.answer.RewriteAnswer.{RewriteAnswer}
use Rattle.merge.specs.Minterms.{and_sides, minterms, minterms_by}
use Rattle.merge.specs.Classify.{Conjunct, classify, classify_record, read_conjuncts}
use Rattle.merge.specs.Collect.{begin, collect}
use Rattle.merge.specs.Emit.{NothingPasses, Outcome, Rebuilt, Unchanged, any_unsat, merge_filter_constraints}
use Rattle.merge.specs.Emit.{resolved}
use Rattle.merge.specs.Rebuild.{comparison_nodes}
use Rattle.merge.specs.Rewrite.{outcome_answer, outcome_of, rewrite_answer, rewrite_bytes, written_if}
use Rattle.merge.specs.Write.{outcome_bytes}
use Rattle.merge.specs.Demand as demand
use Rattle.merge.specs.Demand.{root_after, used_after}
use Rattle.merge.specs.Twice as twice
use Rattle.merge.proofs.Chains.{minterms-law}
use Rattle.merge.proofs.Classified.{classified_as}
use Rattle.merge.proofs.Demand.{R, Told, back, good, halves, holds, is, merged, merged_is, payload, settled}
use Rattle.merge.proofs.Passes.{eqb-self}
use Rattle.merge.proofs.ReadBack.{AsRead, Each, kept_conjuncts}
use Rattle.merge.proofs.Readings.{Names, classified_rightly}
use Rattle.merge.proofs.Rebuilding.{put_record, rebuild, rebuild_wf, wf_put}
use Rattle.merge.proofs.RebuiltChain.{Back, chain-read, kept_back, minterms-ones}
use Rattle.merge.proofs.Returned.{AnswerLt, NotEmpty, answer_lt, returned}
use Rattle.merge.proofs.Twice.{concluded, merge_twice}
use Rattle.merge.proofs.Witness.{HalfPoints}

module _ {K Val : Type 0} (S : Scalars K Val) (H : HalfPoints S) (tk : TruthKeys S.order) (nay : Val) (R : ℕ → AExpr Val)
    (wf : WF R) (used : ℕ) where
  all_as : (ms : List ℕ) → Each S (AsRead S) (map (classify R) ms)
  all_as [] = tt
  all_as (n ∷ ms) = (classified_as S R n, all_as ms)

  names : (n : ℕ) → Names n (classify R n)
  names n = (classified_rightly S H tk R wf (λ c. none) n).3

  -- a rebuilt chain, read and merged again
  rebuilt-again : (root : ℕ) (ns : List ℕ) (cs : List (ℕ × ColumnComparison Val)) →
      merge_filter_constraints S (read_conjuncts R root) ≡ Rebuilt ns cs → AnswerLt S used (Rebuilt ns cs) →
      is_empty (ns ++ comparison_nodes used cs) ≡ false →
      merge_filter_constraints S (read_conjuncts (rebuild R used ns cs).records (rebuild R used ns cs).root) ≡ Unchanged
  rebuilt-again root ns cs e b f =
      let l : List (Conjunct Val) = read_conjuncts R root in
      let r = concluded S H (collect S l begin) ns cs e in
      let u = (or_no (collect S l begin).unsat (any_unsat (collect S l begin).order (resolved S (collect S l begin)))
      r.0).0 in
      let k = kept_back S R names (minterms R root) (minterms-ones R wf root) l refl u in
      ap (merge_filter_constraints S) (chain-read S R names used ns cs (kept_conjuncts S l) wf
      (rebuild_wf S tk (λ c. none) R wf used ns cs b) b f (subst (λ m. Back S R names m (kept_conjuncts S l)) r.2 k))
      ∙ merge_twice S H l (all_as (minterms R root)) ns cs e

  -- the false literal is left be
  false-again : merge_filter_constraints S (read_conjuncts (λ i. put_record R used (Literal nay) i) used) ≡ Unchanged
  false-again =
      let Q : ℕ → AExpr Val = λ i. put_record R used (Literal nay) i in
      let e : Q used ≡ Literal nay = ap (λ b. cond b (Literal nay) (R used)) (eqb-self used) in
      let m : minterms Q used ≡ used ∷ [] = minterms-law Q used (wf_put R used (Literal nay) wf tt used)
      ∙ ap (λ r. minterms_by used (λ a. minterms Q a) (and_sides r)) e in
      ap (λ l. merge_filter_constraints S (map (classify Q) l)) m
      ∙ ap (λ r. merge_filter_constraints S (classify_record Q used r ∷ [])) e

  pub returned-again : (nay-no : truth_of_value S.key S.order tk (some (S.key nay)) ≡ False) (root : ℕ) (o : Outcome Val) → merge_filter_constraints S (read_conjuncts R root) ≡ o →
      AnswerLt S used o → NotEmpty S H tk nay nay-no R wf used o →
      merge_filter_constraints S (read_conjuncts (returned S H tk nay nay-no R wf used root o).records
      (returned S H tk nay nay-no R wf used root o).root) ≡ Unchanged
  returned-again nay-no root Unchanged e b f = e
  returned-again nay-no root NothingPasses e b f = false-again
  returned-again nay-no root (Rebuilt ns cs) e b f = rebuilt-again root ns cs e b f

-- ---- From bytes.
module _ (t rs p : List ℕ) (used root : ℕ) (bytes : demand.AreBytes rs) (ok : Checked t rs p used root)
    (kept : demand.is_refused (outcome_answer t rs used (merged rs p used root)) ≡ false) where
  -- what is merged of the bytes at exit
  exit_unchanged :
      merged (outcome_bytes t rs used (merged rs p used root)) p (back t rs p used root bytes ok (merged rs p used root)
      ).used (back t rs p used root bytes ok (merged rs p used root)).root ≡ Unchanged
  exit_unchanged =
      let b = back t rs p used root bytes ok (merged rs p used root) in
      ap (λ Q. merge_filter_constraints payload (read_conjuncts Q b.root)) (fun_ext (holds t rs p used root bytes ok kept))
      ∙ returned-again payload halves truth_keys 0 (R t rs p used root bytes ok) (good t rs p used root bytes ok) used refl
      root (merged rs p used root) refl
      (answer_lt payload used halves truth_keys (R t rs p used root bytes ok) (good t rs p used root bytes ok) root
      ok.root-used)
      (is t rs p used root bytes ok kept).full

-- What is merged of the screen returned changes nothing, accepted as input or not.
pub outcome_again : (t rs p : List ℕ) (used root : ℕ) → demand.AreBytes rs → demand.AcceptedScreen t rs p used root →
    outcome_of (twice.bytes_returned t rs p used root) p (twice.used_returned t rs p used root)
    (twice.root_returned t rs p used root) ≡ Unchanged
unfolding rewrite_bytes
outcome_again t rs p used root bytes h =
    merged_is (twice.bytes_returned t rs p used root) p (twice.used_returned t rs p used root)
    (twice.root_returned t rs p used root)
    ∙ ap (λ b. merged b p (twice.used_returned t rs p used root) (twice.root_returned t rs p used root)) out
    ∙ ap (λ u. merged (outcome_bytes t rs used o) p u (twice.root_returned t rs p used root)) new_used
    ∙ ap (λ r. merged (outcome_bytes t rs used o) p (back t rs p used root bytes ok o).used r) new_root
    ∙ exit_unchanged t rs p used root bytes ok kept
  where
    s : (check_answer t rs p used root ≡ check.Accepted)
        × (rewrite_answer t rs p used root ≡ outcome_answer t rs used (merged rs p used root))
    s = settled t rs p used root h

    ok : Checked t rs p used root
    ok = checked t rs p used root s.0

    o : Outcome ℕ
    o = merged rs p used root

    x : RewriteAnswer
    x = outcome_answer t rs used o

    kept : demand.is_refused x ≡ false
    kept = subst (λ a. demand.is_refused a ≡ false) s.1 h

    w : Told t rs p used root bytes ok o x
    w = is t rs p used root bytes ok kept

    out : twice.bytes_returned t rs p used root ≡ outcome_bytes t rs used o
    out = ap (λ b. written_if (rewrite_answer t rs p used root) rs b)
        (ap (outcome_bytes t rs used) (merged_is rs p used root))
        ∙ ap (λ a. written_if a rs (outcome_bytes t rs used o)) s.1 ∙ w.written

    new_used : twice.used_returned t rs p used root ≡ (back t rs p used root bytes ok o).used
    new_used = ap (λ a. used_after a used) s.1 ∙ w.new_used

    new_root : twice.root_returned t rs p used root ≡ (back t rs p used root bytes ok o).root
    new_root = ap (λ a. root_after a root) s.1 ∙ w.new_root

-- Request 2.12.
pub twice-unchanged : twice.TwiceHolds
twice-unchanged t rs p used root bytes h h' =
    let b = twice.bytes_returned t rs p used root in
    let u = twice.used_returned t rs p used root in
    let r = twice.root_returned t rs p used root in
    (settled t b p u r h').1
    ∙ ap (outcome_answer t b u) (sym (merged_is b p u r) ∙ outcome_again t rs p used root bytes h)
