-- The answer by the steps of the code: checking, 8, 9, 17, then the lines.
use mathlib.Core.Path.{◌≡◌, refl, sym, ◌∙◌, ap}
use mathlib.Core.Bool.{Bool, true, false, not, cond}
use mathlib.Core.List.{List, [], ◌∷◌}
use Prim.Native.Nat.{ℕ, zero, suc, ◌≤◌, ◌<◌}
use native.Mathlib.Omega.{arith}
use lib.Dec.{ltb}
use lib.ListN.{length}
use borrow.Author.Tests.{lt-ltb, le-ltb}
use Rattle.checking.specs.Check.{check_answer}
use Rattle.checking.specs.Checked.{Checked}
use Rattle.checking.specs.Tree.{tree_count}
use Rattle.checking.specs.Answer as check
use Rattle.checking.proofs.Accepted.{checked}
use Rattle.truth.specs.AExpr.{AExpr}
use Rattle.truth.specs.FromBytes.{aexpr_of, aexpr_at}
use Rattle.constraints.specs.Payload.{payload}
use Rattle.merge.specs.Minterms.{minterms}
use Rattle.merge.specs.Classify.{classify, Opaque}
use Rattle.merge.specs.Emit.{merge_filter_constraints}
use Rattle.merge.specs.Plain.{plain_screen}
use Rattle.merge.proofs.Chains.{Below}
use Rattle.merge.proofs.Accepted.{inputs-fall}
use Rattle.read_operands.specs.Walk.{walked, first_of}
use Rattle.read_operands.proofs.Walks.{first-length}
use Rattle.reading.proofs.Screens.{minterms-walked, minterms-below, classify-used, classify-all_used}
use Rattle.judge_lines.specs.WayAnswer as way
use Rattle.judge_lines.specs.Lines.{without, is_nothing, nothing_passes, first_true}
use Rattle.judge_lines.specs.Answer.{line_of, line_answer}
use Rattle.judge_lines.proofs.LeftOut.{opaque-first}
use Rattle.way_answer.specs.Answer.{way_checked, way_if, way_answer}

first-agree : (f g : ℕ → Bool) → ((i : ℕ) → f i ≡ g i) → (n : ℕ) → first_true f n ≡ first_true g n
unfolding first_true
first-agree f g h zero = refl
first-agree f g h (suc n) = rw (first-agree f g h n, h n)

below-without : (u i : ℕ) (l : List ℕ) → Below u l → Below u (without i l)
below-without u zero [] h = tt
below-without u zero (x ∷ l) h = h.1
below-without u (suc i) [] h = tt
below-without u (suc i) (x ∷ l) h = (h.0, below-without u i l h.1)

-- A screen that is refused in checking is refused.
pub way-refused : (t rs p : List ℕ) (used root k : ℕ) → check_answer t rs p used root ≡ check.Refused k
    → way.Refused k ≡ way_answer t rs p used root
unfolding way_answer
way-refused t rs p used root k e = sym (ap (λ c. way_if c (way_checked t rs p used root)) e)

module _ (t rs p : List ℕ) (used root : ℕ) (ok : check_answer t rs p used root ≡ check.Accepted) where
  good : Checked t rs p used root
  good = checked t rs p used root ok

  -- Record 0 says nothing of any column.
  pub zero-says : classify (aexpr_of rs p) 0 ≡ Opaque 0
  zero-says =
      let h : root < used = good.root-used in
      sym (classify-used t rs p used root good 0 (omega arith))
      ∙ opaque-first (aexpr_at rs p used) (inputs-fall t rs p used root good 0)

  on : (b c d : Bool) → ltb 4096 (tree_count rs root) ≡ b → ltb 128 (length (minterms (walked rs) root)) ≡ c
      → plain_screen t (aexpr_at rs p used) root ≡ d
      → way_answer t rs p used root ≡ cond b (way.Refused 8) (cond c (way.Refused 9)
      (cond d (line_answer (aexpr_at rs p used) (minterms (aexpr_at rs p used) root)) (way.Refused 17)))
  unfolding way_answer
  on b c d e f g =
      ap (λ a. way_if a (way_checked t rs p used root)) ok
      ∙ ap (λ b. cond b (way.Refused 8) (cond (ltb 128 (length (minterms (aexpr_at rs p used) root))) (way.Refused 9)
      (cond (plain_screen t (aexpr_at rs p used) root)
      (line_answer (aexpr_at rs p used) (minterms (aexpr_at rs p used) root)) (way.Refused 17)))) e
      ∙ ap (λ c. cond b (way.Refused 8) (cond c (way.Refused 9)
      (cond (plain_screen t (aexpr_at rs p used) root)
      (line_answer (aexpr_at rs p used) (minterms (aexpr_at rs p used) root)) (way.Refused 17))))
      (ap (λ l. ltb 128 (length l)) (minterms-walked t rs p used root good) ∙ f)
      ∙ ap (λ d. cond b (way.Refused 8) (cond c (way.Refused 9)
      (cond d (line_answer (aexpr_at rs p used) (minterms (aexpr_at rs p used) root)) (way.Refused 17)))) g

  pub way-8 : 4096 < tree_count rs root → way.Refused 8 ≡ way_answer t rs p used root
  way-8 h =
      sym (on true (ltb 128 (length (minterms (walked rs) root))) (plain_screen t (aexpr_at rs p used) root)
      (lt-ltb 4096 (tree_count rs root) h) refl refl)

  pub way-9 : tree_count rs root ≤ 4096 → 128 < length (minterms (walked rs) root)
      → way.Refused 9 ≡ way_answer t rs p used root
  way-9 h k =
      sym (on false true (plain_screen t (aexpr_at rs p used) root) (le-ltb 4096 (tree_count rs root) h)
      (lt-ltb 128 (length (minterms (walked rs) root)) k) refl)

  pub way-17 : tree_count rs root ≤ 4096 → length (minterms (walked rs) root) ≤ 128
      → plain_screen t (aexpr_at rs p used) root ≡ false → way.Refused 17 ≡ way_answer t rs p used root
  way-17 h k f =
      sym (on false false false (le-ltb 4096 (tree_count rs root) h)
      (le-ltb 128 (length (minterms (walked rs) root)) k) f)

  -- What the merging says of used records is what it says of what the code reads.
  nothing-used : (l : List ℕ) → Below used l → nothing_passes (aexpr_at rs p used) l ≡ nothing_passes (aexpr_of rs p) l
  nothing-used l h =
      ap (λ x. is_nothing (merge_filter_constraints payload x)) (classify-all_used t rs p used root good l h)

  lines-used : (l : List ℕ) → Below used l → line_answer (aexpr_at rs p used) l ≡ line_answer (aexpr_of rs p) l
  lines-used l h =
      ap (λ b. cond b (line_of (length l) (first_true (λ i. not (nothing_passes (aexpr_at rs p used) (without i l)))
      (length l))) way.Passes) (nothing-used l h)
      ∙ ap (λ k. cond (nothing_passes (aexpr_of rs p) l) (line_of (length l) k) way.Passes)
      (first-agree _ _ (λ i. ap not (nothing-used (without i l) (below-without used i l h))) (length l))

  pub way-lines : tree_count rs root ≤ 4096 → (nodes : List ℕ) (n : ℕ) → first_of nodes n ≡ minterms (walked rs) root
      → n ≤ 128 → plain_screen t (aexpr_at rs p used) root ≡ true
      → line_answer (aexpr_of rs p) (first_of nodes n) ≡ way_answer t rs p used root
  way-lines h nodes n are few f =
      ap (line_answer (aexpr_of rs p)) are
      ∙ sym (lines-used (minterms (walked rs) root) (minterms-below t rs p used root good))
      ∙ ap (line_answer (aexpr_at rs p used)) (sym (minterms-walked t rs p used root good))
      ∙ sym (on false false true (le-ltb 4096 (tree_count rs root) h)
      (le-ltb 128 (length (minterms (walked rs) root)) (omega (arith, few, first-length nodes n, ap length are))) f)
