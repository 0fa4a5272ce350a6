-- The screen returned is accepted, and tests rows as the screen sent does (specs/Usable.antt has the statements).
use mathlib.Core.Path.{◌≡◌, refl, sym, ◌∙◌, ap, subst}
use mathlib.Core.Bool.{Bool, true, false, cond, ◌&&◌, true≢false}
use mathlib.Core.List.{List, []}
use Prim.Native.Nat.{ℕ, suc, ◌+◌, ◌*◌, ◌/◌, ◌%◌, ◌≤◌}
use native.Mathlib.Omega.{arith}
use lib.Dec.{eqb, ltb, leb}
use lib.ListN.{length}
use borrow.Author.Tests.{le-ltb, ltb-false, leb-true, le-leb, eqb-true}
use Rattle.record_check.specs.Fit.{type_of}
use Rattle.checking.specs.Check.{sizes_ok_in, check_answer}
use Rattle.checking.specs.Checked.{Checked, CheckedIn}
use Rattle.checking.specs.Tree.{tree_count}
use Rattle.checking.specs.Answer.{CheckAnswer}
use Rattle.checking.specs.Answer as check
use Rattle.checking.proofs.Accepted.{checked, checked-accepted_in}
use Rattle.three_valued.specs.declared.logic.Truth.{Truth}
use Rattle.three_valued.specs.declared.logic.Truth.TheVariants.{False, Unknown, True}
use Rattle.row_test.specs.Answer.{RowAnswer}
use Rattle.row_test.specs.Answer as row
use Rattle.three_valued.specs.Logic.{is_true}
use Rattle.truth.specs.FromBytes.{aexpr_at, row_keys, truth_in}
use Rattle.row_test.specs.RowTest.{row_fault, test_row_answer}
use Rattle.row_test.specs.RowTest as test
use Rattle.constraints.specs.Comparisons.{ColumnComparison}
use Rattle.constraints.specs.Payload.{payload}
use Rattle.constraints.specs.Values.{is_empty}
use Rattle.merge.specs.declared.answer.RewriteAnswer.{RewriteAnswer}
use Rattle.merge.specs.declared.answer.RewriteAnswer.TheVariants as answer
use Rattle.merge.specs.Minterms.{minterms}
use Rattle.merge.specs.Emit.{Outcome, Unchanged, NothingPasses, Rebuilt}
use Rattle.merge.specs.Rebuild.{comparison_nodes, comparisons_end}
use Rattle.merge.specs.Write.{write_comparisons, outcome_bytes}
use Rattle.merge.specs.Rewrite.{outcome_of, chain_nodes, chain_root, chain_used, has_room, chain_fits, outcome_answer}
use Rattle.merge.specs.Rewrite.{rewrite_if, rewrite_answer, written_if, rewrite_bytes}
use Rattle.merge.specs.Demand.{root_after, used_after, is_refused, AreBytes, AcceptedScreen}
use Rattle.merge.specs.Usable.{Usable, UsableIn, SameTest, ReturnedUsable, ReturnedTestsSame}
use Rattle.merge.proofs.Chains.{Every, every-app, every_map}
use Rattle.merge.proofs.Compared.{full-right, nodes_full, rebuilt-compares}
use Rattle.merge.proofs.Demand.{and_yes, chain-fits_fields, demand-3, room_of}
use Rattle.merge.proofs.Extended.{Extends, TruthBelow, extends_then, truth-kept, put-extends, put-type}
use Rattle.merge.proofs.Extended.{comparisons-extend, fold-extends, false-new}
use Rattle.merge.proofs.RebuiltBytes.{Fit, literal_record, comparisons-end, fold_end}
use Rattle.merge.proofs.Literals.{WrittenP}
use Rattle.merge.proofs.TestedRows.{tested-rows}
use Rattle.merge.proofs.Trees.{tree-new, literal-inputs}
use Rattle.merge.proofs.Types.{InColumn, IsTruth, opens, kept-truths, written-typed}

-- ---- A screen extended by checked records is checked; text is what is lent beside the pool.
-- The limits: the pool is the same, the records as long.
sizes-of :
    (text : ℕ) (rs out p : List ℕ) (used used' : ℕ) → sizes_ok_in text rs p used ≡ true → length out ≡ length rs →
    used' ≤ 4096 → 16 * used' ≤ length rs → sizes_ok_in text out p used' ≡ true
unfolding sizes_ok_in
sizes-of text rs out p used used' h e few room =
    let a = (and_yes (leb used 4096) (leb used (length rs / 16) && pool) h).1 in
    let b = (and_yes (leb used (length rs / 16)) pool a).1 in
    rw (le-leb used' 4096 few, e, le-leb used' (length rs / 16) (omega arith)) b
  where
    pool : Bool
    pool = eqb (length p % 8) 0 && cond (leb text 8193) (leb (length p / 8) 8192) false

module _ (text : ℕ) (t rs p : List ℕ) (used root : ℕ) (ok : CheckedIn text t rs p used root) where
  -- The root is a Truth among the records written so far, and all of them are checked.
  usable :
      (out : List ℕ) (end new_root : ℕ) → Extends text t rs out p used end → TruthBelow t out end new_root → end ≤ 4096 →
      16 * end ≤ length rs → tree_count out new_root ≤ 4096 → UsableIn text t out p end new_root
  usable out end new_root x r few room tree =
      record {
        accepted =
            checked-accepted_in text t out p end new_root
            (record {
              table = ok.table;
              sizes = sizes-of text rs out p used end ok.sizes x.lent few room;
              root-used = r.0;
              records = x.all;
              root-truth = r.1;
            });
        tree = tree;
      }

  nothing-usable :
      has_room rs (suc used) ≡ true → UsableIn text t (outcome_bytes t rs used NothingPasses) p (suc used) used
  unfolding type_of
  nothing-usable h =
      let k = room_of t rs used root (suc used) h in
      let l : 16 * suc used ≤ length rs = k.1 in
      let new = false-new text t rs p used in
      let room : 16 * used + 16 ≤ length rs = omega arith in
      let one : tree_count (outcome_bytes t rs used NothingPasses) used ≡ 1 =
      tree-new rs used (literal_record 3 0) room [] new.words (literal-inputs 3 0) tt in
      usable (outcome_bytes t rs used NothingPasses) (suc used) used
      (put-extends text t rs p used (literal_record 3 0) room ok.records new)
      (omega arith, put-type t rs p used (literal_record 3 0) room new.words) k.0 k.1 (omega (arith, one))

  -- What is asked of an outcome that is to be written.
  abbrev pub Writable : Outcome ℕ → Type 0
  Writable Unchanged = Unit {0}
  Writable NothingPasses = Unit {0}
  Writable (Rebuilt ns cs) =
      Fit cs × WrittenP payload (InColumn text t) (opens text t) cs × Every (IsTruth text t rs p used root ok) ns
      × (is_empty cs ≡ false)

  chain-usable :
      (ns : List ℕ) (cs : List (ℕ × ColumnComparison ℕ)) → Writable (Rebuilt ns cs) →
      chain_fits t rs used ns cs ≡ true →
      UsableIn text t (outcome_bytes t rs used (Rebuilt ns cs)) p (chain_used used ns cs) (chain_root used ns cs)
  chain-usable ns cs w h =
      let b = and_yes (has_room rs (chain_used used ns cs))
      (leb (tree_count (outcome_bytes t rs used (Rebuilt ns cs)) (chain_root used ns cs)) 4096) h in
      let k = room_of t rs used root (chain_used used ns cs) b.0 in
      let few : chain_used used ns cs ≤ 4096 = k.0 in
      let big : 16 * chain_used used ns cs ≤ length rs = k.1 in
      let f : comparisons_end used cs ≤ chain_used used ns cs =
      fold_end (chain_nodes used ns cs) (comparisons_end used cs) in
      let x = comparisons-extend text t p ok.table cs rs used (omega arith) (omega arith) w.0 w.1
      ok.records in
      let old = every_map (IsTruth text t rs p used root ok) (TruthBelow t mid end)
      (truth-kept text t rs mid p used end (comparisons-end cs used) x.0) ns w.2 in
      let full = full-right ns (comparison_nodes used cs) (nodes_full used cs w.3) in
      let y = fold-extends text t p (chain_nodes used ns cs) mid end full
      (rw x.0.lent big) few (every-app (TruthBelow t mid end) ns (comparison_nodes used cs) old x.1)
      x.0.all in
      usable (outcome_bytes t rs used (Rebuilt ns cs)) (chain_used used ns cs) (chain_root used ns cs)
      (extends_then text t rs mid (outcome_bytes t rs used (Rebuilt ns cs)) p used end (chain_used used ns cs)
      (comparisons-end cs used) x.0 y.0) y.1 few big (leb-true _ 4096 b.1)
    where
      mid : List ℕ
      mid = write_comparisons t used cs rs

      end : ℕ
      end = comparisons_end used cs

  -- The screen of an answer a for the outcome o.
  abbrev pub Good : Outcome ℕ → RewriteAnswer → Type 0
  Good o a = UsableIn text t (written_if a rs (outcome_bytes t rs used o)) p (used_after a used) (root_after a root)

  pub outcome_usable :
      UsableIn text t rs p used root → (o : Outcome ℕ) → Writable o →
      is_refused (outcome_answer t rs used o) ≡ false → Good o (outcome_answer t rs used o)
  outcome_usable sent Unchanged w h = sent
  outcome_usable sent NothingPasses w h = go (has_room rs (suc used)) refl h
    where
      a : Bool → RewriteAnswer
      a b = cond b (answer.NothingPasses used (suc used)) (answer.Refused 11)

      go : (b : Bool) → has_room rs (suc used) ≡ b → is_refused (a b) ≡ false → Good NothingPasses (a b)
      go true f h = nothing-usable f
      go false f h = absurd (true≢false h)
  outcome_usable sent (Rebuilt ns cs) w h =
      go (chain_fits t rs used ns cs) refl h
    where
      a : Bool → RewriteAnswer
      a c = cond c (answer.Rewritten (chain_root used ns cs) (chain_used used ns cs)) (answer.Refused 11)

      go : (c : Bool) → chain_fits t rs used ns cs ≡ c → is_refused (a c) ≡ false → Good (Rebuilt ns cs) (a c)
      go true f h = chain-usable ns cs w f
      go false f h = absurd (true≢false h)

writable : (t rs p : List ℕ) (used root : ℕ) → AreBytes rs → (ok : Checked t rs p used root) → (o : Outcome ℕ) →
    outcome_of rs p used root ≡ o → Writable 0 t rs p used root ok o
writable t rs p used root bytes ok Unchanged e = tt
writable t rs p used root bytes ok NothingPasses e = tt
writable t rs p used root bytes ok (Rebuilt ns cs) e = (
  (chain-fits_fields t rs p used root bytes ok ns cs e).1,
  written-typed t rs p used root ok ns cs e,
  kept-truths t rs p used root ok ns cs e,
  rebuilt-compares payload (aexpr_at rs p used) (minterms (aexpr_at rs p used) root) ns cs e,
)

-- ---- From the answer to the screen: what was sent is usable, and what is returned.
both-usable :
    (t rs p : List ℕ) (used root : ℕ) → AreBytes rs → AcceptedScreen t rs p used root →
    Usable t rs p used root
    × Usable t (rewrite_bytes t rs p used root) p (used_after (rewrite_answer t rs p used root) used)
    (root_after (rewrite_answer t rs p used root) root)
unfolding rewrite_answer rewrite_bytes
both-usable t rs p used root bytes h =
    go (check_answer t rs p used root) refl (ltb 4096 (tree_count rs root)) refl
    (ltb 128 (length (minterms (aexpr_at rs p used) root))) h
  where
    o : Outcome ℕ
    o = outcome_of rs p used root

    a : CheckAnswer → Bool → Bool → RewriteAnswer
    a c b d = rewrite_if c (cond b (answer.Refused 8) (cond d (answer.Refused 9) (outcome_answer t rs used o)))

    go :
        (c : CheckAnswer) → check_answer t rs p used root ≡ c → (b : Bool) → ltb 4096 (tree_count rs root) ≡ b →
        (d : Bool) → is_refused (a c b d) ≡ false →
        Usable t rs p used root
        × Usable t (written_if (a c b d) rs (outcome_bytes t rs used o)) p (used_after (a c b d) used)
        (root_after (a c b d) root)
    go (check.Refused k) e b f d h = absurd (true≢false h)
    go check.Accepted e true f d h = absurd (true≢false h)
    go check.Accepted e false f true h = absurd (true≢false h)
    go check.Accepted e false f false h =
        let sent : Usable t rs p used root =
        record { accepted = e; tree = ltb-false 4096 (tree_count rs root) f } in
        let ok = checked t rs p used root e in
        (sent, outcome_usable 0 t rs p used root ok sent o (writable t rs p used root bytes ok o refl) h)

-- Checking accepts the screen returned, and its tree is within 4,096 records.
pub returned-usable : ReturnedUsable
returned-usable t rs p used root bytes h = (both-usable t rs p used root bytes h).1

-- ---- The row test.
-- Of a usable screen it refuses rows only, by what the table asks of them.
abbrev pub row_answer : ℕ → Truth → RowAnswer
row_answer fault x = cond (eqb fault 0) (row.Tested x) (row.Refused fault)

usable-test :
    (t rs p : List ℕ) (used root : ℕ) (values : List ℕ) (nulls : ℕ) → Usable t rs p used root →
    test_row_answer t rs p used root values nulls
    ≡ row_answer (row_fault t values nulls) (truth_in (aexpr_at rs p used) (row_keys values nulls) root)
unfolding test_row_answer test.checked_answer
usable-test t rs p used root values nulls u = rw (u.accepted, le-ltb 4096 (tree_count rs root) u.tree)

truth-passed : (x : Truth) → is_true x ≡ true → row.Tested x ≡ row.Tested True
truth-passed True h = refl
truth-passed Unknown h = absurd (true≢false (sym h))
truth-passed False h = absurd (true≢false (sym h))

is_tested : RowAnswer → Bool
is_tested (row.Refused k) = false
is_tested (row.Tested x) = true

has_passed : RowAnswer → Bool
has_passed (row.Refused k) = false
has_passed (row.Tested x) = is_true x

pub same_test :
    (fault : ℕ) (x y : Truth) → (fault ≡ 0 → is_true y ≡ is_true x) → SameTest (row_answer fault x) (row_answer fault y)
unfolding is_tested has_passed
same_test fault x y e = go (eqb fault 0) refl
  where
    pass : (x y : Truth) → is_true y ≡ is_true x → row.Tested x ≡ row.Tested True → row.Tested y ≡ row.Tested True
    pass x y e h = truth-passed y (e ∙ ap has_passed h)

    go : (b : Bool) → eqb fault 0 ≡ b
        → SameTest (cond b (row.Tested x) (row.Refused fault)) (cond b (row.Tested y) (row.Refused fault))
    go true f =
        let q = e (eqb-true fault 0 f) in
        record {
          refused = λ k. ((λ h. absurd (true≢false (ap is_tested h))), λ h. absurd (true≢false (ap is_tested h)));
          passed = (pass y x (sym q), pass x y q);
        }
    go false f = record { refused = λ k. ((λ h. h), λ h. h); passed = ((λ h. h), λ h. h) }

-- The row test answers of the screen returned as of the screen sent.
pub returned-tests_same : ReturnedTestsSame
returned-tests_same t rs p used root bytes h values nulls =
    let u = both-usable t rs p used root bytes h in
    subst (λ s. SameTest s (test_row_answer t out p new_used new_root values nulls))
    (sym (usable-test t rs p used root values nulls u.0))
    (subst (SameTest (row_answer fault (truth_in (aexpr_at rs p used) (row_keys values nulls) root)))
    (sym (usable-test t out p new_used new_root values nulls u.1))
    (same_test fault (truth_in (aexpr_at rs p used) (row_keys values nulls) root)
    (truth_in (aexpr_at out p new_used) (row_keys values nulls) new_root)
    (λ e. (demand-3 t rs p used root bytes h).rows (row_keys values nulls)
    (tested-rows t values nulls e (aexpr_at rs p used) root))))
  where
    out : List ℕ
    out = rewrite_bytes t rs p used root

    new_used : ℕ
    new_used = used_after (rewrite_answer t rs p used root) used

    new_root : ℕ
    new_root = root_after (rewrite_answer t rs p used root) root

    fault : ℕ
    fault = row_fault t values nulls
