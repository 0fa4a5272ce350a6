-- The answer of rewriting and the bytes at exit, by the steps of the code: checking, 8, 9, then what is reckoned.
use Rattle.merge.specs.Classify.{classify}
use mathlib.Core.Path.{◌≡◌, refl, sym, ◌∙◌, ap}
use mathlib.Core.Bool.{Bool, true, false, cond, ◌&&◌, true≢false}
use mathlib.Core.List.{List, map}
use Prim.Native.Nat.{ℕ, ◌+◌, ◌≤◌, ◌<◌, min}
use lib.Dec.{ltb, leb}
use lib.ListN.{length, get_or}
use borrow.Author.Tests.{lt-ltb, le-ltb}
use Rattle.checking.specs.Check.{check_answer}
use Rattle.checking.specs.Tree.{tree_count}
use Rattle.checking.specs.Answer as check
use Rattle.checking.proofs.Accepted.{checked}
use Rattle.truth.specs.FromBytes.{aexpr_of, aexpr_at}
use Rattle.constraints.specs.Payload.{payload}
use Rattle.merge.specs.declared.answer.RewriteAnswer.{RewriteAnswer}
use Rattle.merge.specs.declared.answer.RewriteAnswer.TheVariants as answer
use Rattle.merge.specs.Minterms.{minterms}
use Rattle.merge.specs.Emit.{Outcome, merge_filter_constraints}
use Rattle.merge.specs.Write.{outcome_bytes}
use Rattle.merge.specs.Rewrite.{outcome_of, outcome_answer, rewrite_checked, rewrite_if, rewrite_answer, written_if}
use Rattle.merge.specs.Rewrite.{rewrite_bytes}
use Rattle.read_operands.specs.Walk.{walked}
use Rattle.reckoning.specs.Reckon.{reckoned_used, reckoned_root, reckoned_tree, room_for, reckoned, reckoned_answer}
use Rattle.reckoning.specs.Rewritten.{is_rewritten}
use Rattle.reading.proofs.Screens.{minterms-walked, conjuncts-used}
use Rattle.reckoning.proofs.Reckons.{reckoned-answer}

-- The merging of what the code reads.
abbrev pub walked_outcome : List ℕ → List ℕ → ℕ → Outcome ℕ
walked_outcome rs p root = merge_filter_constraints payload (map (classify (aexpr_of rs p)) (minterms (walked rs) root))

-- A screen that is refused in checking is refused.
pub rewrite-refused : (t rs p : List ℕ) (used root k : ℕ) → check_answer t rs p used root ≡ check.Refused k
    → (rewrite_answer t rs p used root ≡ answer.Refused k) × (rewrite_bytes t rs p used root ≡ rs)
unfolding rewrite_answer rewrite_bytes
rewrite-refused t rs p used root k e =
    let a : rewrite_answer t rs p used root ≡ answer.Refused k =
    ap (λ c. rewrite_if c (rewrite_checked t rs p used root)) e in
    (a, ap (λ x. written_if x rs (outcome_bytes t rs used (outcome_of rs p used root))) a)

module _ (t rs p : List ℕ) (used root : ℕ) (ok : check_answer t rs p used root ≡ check.Accepted) where
  -- The outcome of the used records is that of what the code reads.
  pub outcome-walked : outcome_of rs p used root ≡ walked_outcome rs p root
  outcome-walked =
      ap (merge_filter_constraints payload) (conjuncts-used t rs p used root (checked t rs p used root ok))

  count-walked : length (minterms (aexpr_at rs p used) root) ≡ length (minterms (walked rs) root)
  count-walked = ap length (minterms-walked t rs p used root (checked t rs p used root ok))

  answers : (b c : Bool) (x : RewriteAnswer) → ltb 4096 (tree_count rs root) ≡ b
      → ltb 128 (length (minterms (walked rs) root)) ≡ c
      → outcome_answer t rs used (outcome_of rs p used root) ≡ x
      → rewrite_answer t rs p used root ≡ cond b (answer.Refused 8) (cond c (answer.Refused 9) x)
  unfolding rewrite_answer
  answers b c x e f g =
      ap (λ a. rewrite_if a (rewrite_checked t rs p used root)) ok
      ∙ ap (λ b. cond b (answer.Refused 8)
      (cond (ltb 128 (length (minterms (aexpr_at rs p used) root))) (answer.Refused 9)
      (outcome_answer t rs used (outcome_of rs p used root)))) e
      ∙ ap (λ c. cond b (answer.Refused 8)
      (cond c (answer.Refused 9) (outcome_answer t rs used (outcome_of rs p used root))))
      (ap (ltb 128) count-walked ∙ f)
      ∙ ap (λ x. cond b (answer.Refused 8) (cond c (answer.Refused 9) x)) g

  written : (a : RewriteAnswer) → rewrite_answer t rs p used root ≡ a
      → rewrite_bytes t rs p used root ≡ written_if a rs (outcome_bytes t rs used (walked_outcome rs p root))
  unfolding rewrite_bytes
  written a e =
      ap (λ x. written_if x rs (outcome_bytes t rs used (outcome_of rs p used root))) e
      ∙ ap (λ o. written_if a rs (outcome_bytes t rs used o)) outcome-walked

  -- 8: too large a tree.
  pub rewrite-8 : 4096 < tree_count rs root
      → (rewrite_answer t rs p used root ≡ answer.Refused 8) × (rewrite_bytes t rs p used root ≡ rs)
  rewrite-8 h =
      let a : rewrite_answer t rs p used root ≡ answer.Refused 8 =
      answers true (ltb 128 (length (minterms (walked rs) root))) (outcome_answer t rs used (outcome_of rs p used root))
      (lt-ltb 4096 (tree_count rs root) h) refl refl in
      (a, written (answer.Refused 8) a)

  -- 9: too many conjuncts.
  pub rewrite-9 : tree_count rs root ≤ 4096 → 128 < length (minterms (walked rs) root)
      → (rewrite_answer t rs p used root ≡ answer.Refused 9) × (rewrite_bytes t rs p used root ≡ rs)
  rewrite-9 h k =
      let a : rewrite_answer t rs p used root ≡ answer.Refused 9 =
      answers false true (outcome_answer t rs used (outcome_of rs p used root))
      (le-ltb 4096 (tree_count rs root) h) (lt-ltb 128 (length (minterms (walked rs) root)) k) refl in
      (a, written (answer.Refused 9) a)

  -- else what is reckoned of the outcome.
  pub rewrite-on : (trees : List ℕ) → ((a : ℕ) → a ≤ root → get_or trees a 0 ≡ min (tree_count rs a) 4097)
      → tree_count rs root ≤ 4096 → length (minterms (walked rs) root) ≤ 128
      → (rewrite_answer t rs p used root ≡ reckoned_answer (length rs) trees used (walked_outcome rs p root))
      × (rewrite_bytes t rs p used root
      ≡ written_if (reckoned_answer (length rs) trees used (walked_outcome rs p root)) rs
      (outcome_bytes t rs used (walked_outcome rs p root)))
  rewrite-on trees counted h k =
      let a : rewrite_answer t rs p used root ≡ reckoned_answer (length rs) trees used (walked_outcome rs p root) =
      answers false false (reckoned_answer (length rs) trees used (walked_outcome rs p root))
      (le-ltb 4096 (tree_count rs root) h) (le-ltb 128 (length (minterms (walked rs) root)) k)
      (sym (reckoned-answer t rs p used root (checked t rs p used root ok) trees counted)
      ∙ ap (reckoned_answer (length rs) trees used) outcome-walked) in
      (a, written (reckoned_answer (length rs) trees used (walked_outcome rs p root)) a)

-- ---- A chain is written exactly if its answer is "rewritten".
module _ (len : ℕ) (trees : List ℕ) (used : ℕ) (ns : List ℕ) (m : ℕ) (rs out : List ℕ) where
  -- Its bytes are the chain's.
  pub chain-written : is_rewritten (reckoned len trees used ns m) ≡ true
      → written_if (reckoned len trees used ns m) rs out ≡ out
  chain-written h = go (reckoned len trees used ns m) h
    where
      go : (a : RewriteAnswer) → is_rewritten a ≡ true → written_if a rs out ≡ out
      go (answer.Refused k) e = absurd (true≢false (sym e))
      go answer.Unchanged e = absurd (true≢false (sym e))
      go (answer.NothingPasses r u) e = absurd (true≢false (sym e))
      go (answer.Rewritten r u) e = refl

  -- Else no byte changes.
  pub chain-unwritten : is_rewritten (reckoned len trees used ns m) ≡ false
      → written_if (reckoned len trees used ns m) rs out ≡ rs
  unfolding reckoned
  chain-unwritten h =
      go
      (room_for len (reckoned_used used ns m) && leb (reckoned_tree trees ns m) 4096) (reckoned_root used ns m)
      (reckoned_used used ns m) h
    where
      go : (c : Bool) (r u : ℕ) → is_rewritten (cond c (answer.Rewritten r u) (answer.Refused 11)) ≡ false
          → written_if (cond c (answer.Rewritten r u) (answer.Refused 11)) rs out ≡ rs
      go true r u e = absurd (true≢false e)
      go false r u e = refl
