-- What the merging answers of the conjuncts in an array is the answer of rewriting.
use mathlib.Core.Path.{◌≡◌, sym, ◌∙◌, ap, fun_ext}
use mathlib.Core.Bool.{true, false, true≢false}
use mathlib.Core.List.{List, [], map}
use Prim.Native.Nat.{ℕ, ◌≤◌, min}
use native.Mathlib.Omega.{arith}
use lib.Dec.{eqb, leb, ltb}
use lib.ListN.{length, get_or, get_or-eq_default}
use borrow.Author.Tests.{leb-true, ltb-true, ltb-false, ne_eqb}
use Rattle.records.specs.Shape.{known_type_in}
use Rattle.records.proofs.Laws.{by-test, and_right}
use Rattle.records.proofs.Loops.{all_holds}
use Rattle.checking.specs.Check.{check_answer, table_ok_in, types_known_in}
use Rattle.checking.specs.Tree.{tree_count}
use Rattle.checking.specs.Answer as check
use Rattle.checking.proofs.Accepted.{checked}
use Rattle.truth.specs.FromBytes.{aexpr_of, aexpr_at}
use Rattle.constraints.specs.Payload.{payload}
use Rattle.merge.specs.declared.answer.RewriteAnswer.{RewriteAnswer}
use Rattle.merge.specs.declared.answer.RewriteAnswer.TheVariants as answer
use Rattle.merge.specs.declared.answer.Rewriting.{Rewriting}
use Rattle.merge.specs.Minterms.{minterms}
use Rattle.merge.specs.Classify.{classify, read_conjuncts}
use Rattle.merge.specs.Demand.{is_refused}
use Rattle.merge.specs.Emit.{merge_filter_constraints}
use Rattle.merge.specs.Passes.{merge_passes, rewrite_passes}
use Rattle.merge.specs.Write.{outcome_bytes}
use Rattle.merge.specs.Lines.{lines_from}
use Rattle.merge.specs.Reasons.{as_number, shown_in, reasons_of}
use Rattle.merge.specs.Rewrite.{outcome_of, rewrite_answer, written_if}
use Rattle.constraints.specs.Lined.{lined}
use Rattle.reasons.specs.Text.{reasons_text}
use Rattle.reasons.specs.Explained.{refuse_long, text_if, length_if, explained_text, explained_answer, explained_bytes}
use Rattle.filter_constraint.specs.Explained.{nodes_text}
use Rattle.merge_conjuncts.specs.Merged.{merged_nodes, MergedNodes}
use Rattle.read_operands.specs.Walk.{walked, first_of}
use Rattle.reckoning.specs.Reckon.{reckoned_answer}
use Rattle.reckoning.proofs.Answers.{walked_outcome, rewrite-on}
use Rattle.reading.proofs.Screens.{nodes_count, conjuncts-used}

-- The table of an accepted screen has no Text column where no text pool is lent, so every value is shown as a number.
no_symbols : (t : List ℕ) → table_ok_in 0 t ≡ true → shown_in t [] ≡ as_number
unfolding shown_in table_ok_in types_known_in known_type_in
no_symbols t table = fun_ext (λ c. fun_ext (λ v. rw (number c)))
  where
    number : (c : ℕ) → eqb (get_or t c 0) 4 ≡ false
    number c =
        by-test (ltb c (length t))
        (λ h.
        let known = all_holds (λ (k : ℕ). known_type_in 0 (get_or t k 0)) c (length t) (ltb-true c (length t) h)
        (and_right (leb (length t) 64) _ table) in
        let low : get_or t c 0 ≤ 3 = leb-true (get_or t c 0) 3 (and_right (leb 1 (get_or t c 0)) _ known) in
        ne_eqb (get_or t c 0) 4 (λ e. omega (arith, low, e)))
        (λ h. ap (λ (x : ℕ). eqb x 4) (get_or-eq_default t 0 {n = c} (ltb-false c (length t) h)))

-- A refusal says nothing of the passes.
pub none_said : (a : RewriteAnswer) (k x y : ℕ) → a ≡ answer.Refused k → is_refused a ≡ false → x ≡ y
none_said a k x y e h = absurd (true≢false (sym (ap is_refused e) ∙ h))

pub rewrite-merged : (t rs p : List ℕ) (used root : ℕ) → check_answer t rs p used root ≡ check.Accepted
    → (trees : List ℕ) → ((a : ℕ) → a ≤ root → get_or trees a 0 ≡ min (tree_count rs a) 4097) → tree_count rs root ≤ 4096
    → (nodes : List ℕ) (n : ℕ) → first_of nodes n ≡ minterms (walked rs) root → n ≤ 128
    → (r : Rewriting) (out buffer after : List ℕ)
    → MergedNodes t rs p used trees nodes n buffer r out after
    → (r.answer ≡ explained_answer t rs p used root (length buffer))
    × ((out ≡ explained_bytes t rs p used root (length buffer))
    × ((is_refused r.answer ≡ false → r.passes ≡ rewrite_passes rs p used root)
    × ((after ≡ text_if r.answer buffer (explained_text rs p used root))
    × (r.length ≡ length_if r.answer (explained_text rs p used root)))))
unfolding rewrite_passes nodes_text explained_text explained_answer explained_bytes
rewrite-merged t rs p used root ok trees counted small nodes n are few r out buffer after m =
    let good = checked t rs p used root ok in
    let k : n ≡ length (minterms (walked rs) root) = nodes_count t rs p used root good nodes n are in
    let on = rewrite-on t rs p used root ok trees counted small (omega (arith, k, few)) in
    let o : merged_nodes rs p nodes n ≡ walked_outcome rs p root =
    ap (λ l. merge_filter_constraints payload (map (classify (aexpr_of rs p)) l)) are in
    let read : map (classify (aexpr_of rs p)) (first_of nodes n) ≡ read_conjuncts (aexpr_at rs p used) root =
    ap (map (classify (aexpr_of rs p))) are ∙ sym (conjuncts-used t rs p used root good) in
    let text : nodes_text t rs p nodes n ≡ explained_text rs p used root =
    (λ i. reasons_text (reasons_of (no_symbols t good.table i) (merge_filter_constraints lined (lines_from 0 (read i))))) in
    let a : r.answer ≡ explained_answer t rs p used root (length buffer) =
    m.answers
    ∙ ap (λ c. refuse_long (length c) (length buffer) (reckoned_answer (length rs) trees used (merged_nodes rs p nodes n))) text
    ∙ ap (λ c. refuse_long (length (explained_text rs p used root)) (length buffer) c)
    (ap (reckoned_answer (length rs) trees used) o ∙ sym on.0) in (
      a,
      (
        m.writes
            ∙ ap (λ c. written_if r.answer rs (outcome_bytes t rs used (merge_filter_constraints payload c))) read
            ∙ ap (λ c. written_if c rs (outcome_bytes t rs used (outcome_of rs p used root))) a,
        (
          λ h. m.counts
              ∙ ap (λ l. merge_passes payload (map (classify (aexpr_of rs p)) l)) are
              ∙ sym (ap (merge_passes payload) (conjuncts-used t rs p used root good)),
          (m.tells ∙ ap (text_if r.answer buffer) text, m.measures ∙ ap (length_if r.answer) text),
        ),
      ),
    )

-- A refusal before the merging: 1 to 7, 8 and 9 look for no text.
pub refused-explained : (t rs p : List ℕ) (used root k : ℕ) (r : Rewriting) (buffer : List ℕ) → r.answer ≡ answer.Refused k
    → r.length ≡ 0 → rewrite_answer t rs p used root ≡ answer.Refused k
    → (r.answer ≡ explained_answer t rs p used root (length buffer))
    × ((rs ≡ explained_bytes t rs p used root (length buffer))
    × ((is_refused r.answer ≡ false → r.passes ≡ rewrite_passes rs p used root)
    × ((buffer ≡ text_if r.answer buffer (explained_text rs p used root))
    × (r.length ≡ length_if r.answer (explained_text rs p used root)))))
unfolding explained_answer explained_bytes
refused-explained t rs p used root k r buffer e l h =
    let a : explained_answer t rs p used root (length buffer) ≡ answer.Refused k =
    ap (refuse_long (length (explained_text rs p used root)) (length buffer)) h in (
      e ∙ sym a,
      (
        sym (ap (λ c. written_if c rs (outcome_bytes t rs used (outcome_of rs p used root))) a),
        (
          none_said r.answer k _ _ e,
          (
            sym (ap (λ c. text_if c buffer (explained_text rs p used root)) e),
            l ∙ sym (ap (λ c. length_if c (explained_text rs p used root)) e),
          ),
        ),
      ),
    )
