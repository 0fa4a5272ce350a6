-- What the call promises, from the answer.
use mathlib.Core.Path.{◌≡◌, refl, sym, ◌∙◌, ap, subst}
use mathlib.Core.Bool.{Bool, true, false, not, cond, true≢false}
use mathlib.Core.List.{List, [], ◌∷◌}
use mathlib.Core.Logic.{⊎_elim}
use Prim.Native.Nat.{ℕ, zero, suc, ◌≤◌, ◌<◌}
use native.Mathlib.Omega.{arith}
use native.Mathlib.Nat.{eq-or-lt_of_le}
use lib.Dec.{ltb}
use lib.ListN.{length}
use borrow.Author.Tests.{ltb-true, ltb-false, not-true, not-false}
use Rattle.checking.specs.Check.{check_answer}
use Rattle.checking.specs.Checked.{Checked}
use Rattle.checking.specs.Tree.{tree_count}
use Rattle.checking.specs.Answer.{CheckAnswer}
use Rattle.checking.specs.Answer as check
use Rattle.checking.proofs.Answers.{refused-numbered}
use Rattle.checking.proofs.Accepted.{checked}
use Rattle.truth.specs.AExpr.{AExpr}
use Rattle.truth.specs.FromBytes.{aexpr_at}
use Rattle.merge.specs.Minterms.{minterms}
use Rattle.merge.specs.Plain.{plain_screen}
use Rattle.judge_lines.specs.WayAnswer.{WayAnswer}
use Rattle.judge_lines.specs.WayAnswer as way
use Rattle.judge_lines.specs.Lines.{without, nothing_passes, first_true}
use Rattle.judge_lines.specs.Answer.{line_answer}
use Rattle.way_answer.specs.Answer.{way_checked, way_if, way_answer}
use Rattle.in_the_way.specs.Calls.{way_number, line_out, WayPromise}
use Rattle.judge_lines.proofs.Rows.{screen_passes, screen_none}
use Rattle.in_the_way.proofs.Rows.{line-passes, line-none}

-- ---- The first number of which f holds.
first-at : (f : ℕ → Bool) (n : ℕ) → first_true f n < n → f (first_true f n) ≡ true
unfolding first_true
first-at f zero h = absurd (omega arith)
first-at f (suc n) h = go (ltb (first_true f n) n) refl (f n) refl (λ k. first-at f n k) h
  where
    go : (b : Bool) → ltb (first_true f n) n ≡ b → (c : Bool) → f n ≡ c
        → (first_true f n < n → f (first_true f n) ≡ true)
        → cond b (first_true f n) (cond c n (suc n)) < suc n → f (cond b (first_true f n) (cond c n (suc n))) ≡ true
    go true e c g ih h = ih (ltb-true (first_true f n) n e)
    go false e true g ih h = g
    go false e false g ih h = absurd (omega (arith, h))

first_below : (f : ℕ → Bool) (n i : ℕ) → i < first_true f n → f i ≡ false
unfolding first_true
first_below f zero i h = absurd (omega arith)
first_below f (suc n) i h = go (ltb (first_true f n) n) refl (f n) refl (λ k. first_below f n i k) h
  where
    go : (b : Bool) → ltb (first_true f n) n ≡ b → (c : Bool) → f n ≡ c → (i < first_true f n → f i ≡ false)
        → i < cond b (first_true f n) (cond c n (suc n)) → f i ≡ false
    go true e c g ih h = ih h
    go false e true g ih h = let l : n ≤ first_true f n = ltb-false (first_true f n) n e in ih (omega (arith, h, l))
    go false e false g ih h =
        let l : n ≤ first_true f n = ltb-false (first_true f n) n e in
        ⊎_elim (λ (q : i ≡ n). ap f q ∙ g) (λ (k : i < n). ih (omega (arith, k, l)))
        (eq-or-lt_of_le (let m : i ≤ n = omega (arith, h) in m))

-- ---- What an answer says of the screen; a refusal's number is below 256.
module _ (t rs p : List ℕ) (used root : ℕ) where
  abbrev R : ℕ → AExpr ℕ
  R n = aexpr_at rs p used n

  abbrev l : List ℕ
  l = minterms (aexpr_at rs p used) root

  -- Without line i some row passes.
  abbrev helps : ℕ → Bool
  helps i = not (nothing_passes (aexpr_at rs p used) (without i (minterms (aexpr_at rs p used) root)))

  abbrev Says : WayAnswer → Type 0
  Says (way.Refused k) = k < 256
  Says way.Passes = nothing_passes R l ≡ false
  Says (way.Line i) = (nothing_passes R l ≡ true) × (i ≡ first_true helps (length l)) × (i < length l)
  Says way.NoLine = (nothing_passes R l ≡ true) × (length l ≤ first_true helps (length l))

  says : Says (line_answer R l)
  says = go (nothing_passes R l) refl (ltb (first_true helps (length l)) (length l)) refl
    where
      go : (b : Bool) → nothing_passes R l ≡ b → (c : Bool) → ltb (first_true helps (length l)) (length l) ≡ c
          → Says (cond b (cond c (way.Line (first_true helps (length l))) way.NoLine) way.Passes)
      go true e true f = (e, refl, ltb-true (first_true helps (length l)) (length l) f)
      go true e false f = (e, ltb-false (first_true helps (length l)) (length l) f)
      go false e c f = e

  -- The screen is accepted and plain, unless it was refused.
  abbrev Judged : WayAnswer → Type 0
  Judged (way.Refused k) = Unit {0}
  Judged way.Passes = Checked t rs p used root × (plain_screen t (aexpr_at rs p used) root ≡ true)
  Judged (way.Line i) = Checked t rs p used root × (plain_screen t (aexpr_at rs p used) root ≡ true)
  Judged way.NoLine = Checked t rs p used root × (plain_screen t (aexpr_at rs p used) root ≡ true)

  settled : (x : WayAnswer) → Checked t rs p used root → plain_screen t (aexpr_at rs p used) root ≡ true → Judged x
  settled (way.Refused k) ok q = tt
  settled way.Passes ok q = (ok, q)
  settled (way.Line i) ok q = (ok, q)
  settled way.NoLine ok q = (ok, q)

  abbrev Both : WayAnswer → Type 0
  Both a = Says a × Judged a

  judged : Both (way_answer t rs p used root)
  unfolding way_answer
  judged = go (check_answer t rs p used root) refl
    where
      pick : (b : Bool) (x y : WayAnswer) → (b ≡ true → Both x) → (b ≡ false → Both y) → Both (cond b x y)
      pick true x y h k = h refl
      pick false x y h k = k refl

      go : (c : CheckAnswer) → check_answer t rs p used root ≡ c → Both (way_if c (way_checked t rs p used root))
      go (check.Refused k) e = (omega (arith, (refused-numbered t rs p used root k e).1), tt)
      go check.Accepted e =
          pick (ltb 4096 (tree_count rs root)) (way.Refused 8) _ (λ h. (omega arith, tt))
          (λ h. pick (ltb 128 (length (minterms (aexpr_at rs p used) root))) (way.Refused 9) _ (λ h. (omega arith, tt))
          (λ h. pick (plain_screen t (aexpr_at rs p used) root) (line_answer R l) (way.Refused 17)
          (λ q. (says, settled (line_answer R l) (checked t rs p used root e) q)) (λ h. (omega arith, tt))))

  one-helps : length l ≡ 1 → helps 0 ≡ true
  one-helps e = go (minterms (aexpr_at rs p used) root) e
    where
      go : (k : List ℕ) → length k ≡ 1 → not (nothing_passes (aexpr_at rs p used) (without 0 k)) ≡ true
      go [] e = absurd (omega (arith, e))
      go (x ∷ []) e = refl
      go (x ∷ (y ∷ k)) e = absurd (omega (arith, e))

  -- The promise, for an answer and what `line` held before.
  pub promised_of : (a : WayAnswer) → Both a → (old : ℕ) → WayPromise t rs p used root (way_number a) (line_out a old)
  promised_of (way.Refused k) h old =
      let small : k < 256 = h.0 in
      record {
        plain = λ e. absurd (omega (arith, e, small));
        passing = λ e. absurd (omega (arith, e, small));
        nothing = λ e. absurd (omega (arith, e, small));
        found = λ e. absurd (omega (arith, e, small));
        first = λ e. absurd (omega (arith, e, small));
        none = λ e. absurd (omega (arith, e, small));
        several = λ e. absurd (omega (arith, e, small));
      }
  promised_of way.Passes h old =
      record {
        plain = λ e. h.1.1;
        passing = λ e. screen_passes t rs p used root h.1.0 h.1.1 h.0;
        nothing = λ e. absurd (omega (arith, e));
        found = λ e. absurd (omega (arith, e));
        first = λ e. absurd (omega (arith, e));
        none = λ e. absurd (omega (arith, e));
        several = λ e. absurd (omega (arith, e));
      }
  promised_of (way.Line i) h old =
      record {
        plain = λ e. h.1.1;
        passing = λ e. absurd (omega (arith, e));
        nothing = λ e row is. screen_none t rs p used root h.1.0 h.1.1 h.0.0 row;
        found = λ e. (
          h.0.2,
          line-passes t rs p used root h.1.0 h.1.1 i (not-true _ (ap helps h.0.1 ∙ first-at helps (length l)
              (subst (λ k. k < length l) h.0.1 h.0.2))),
        );
        first = λ e j k. line-none t rs p used root h.1.0 h.1.1 j
            (not-false _ (first_below helps (length l) j (subst (λ m. j < m) h.0.1 k)));
        none = λ e. absurd (omega (arith, e));
        several = λ e. absurd (omega (arith, e));
      }
  promised_of way.NoLine h old =
      record {
        plain = λ e. h.1.1;
        passing = λ e. absurd (omega (arith, e));
        nothing = λ e row is. screen_none t rs p used root h.1.0 h.1.1 h.0.0 row;
        found = λ e. absurd (omega (arith, e));
        first = λ e. absurd (omega (arith, e));
        none = λ e j k. line-none t rs p used root h.1.0 h.1.1 j
            (not-false _ (first_below helps (length l) j (let m : length l ≤ first_true helps (length l) = h.0.1 in
            omega (arith, k, m))));
        several = λ e. more (length l) refl h.0.0 h.0.1;
      }
    where
      more : (n : ℕ) → length l ≡ n → nothing_passes R l ≡ true → length l ≤ first_true helps (length l) → 1 < length l
      more zero e q m = absurd (empty (minterms (aexpr_at rs p used) root) e q)
        where
          empty : (k : List ℕ) → length k ≡ 0 → nothing_passes (aexpr_at rs p used) k ≡ true → ⊥
          empty [] e q = absurd (true≢false (sym q))
          empty (x ∷ k) e q = absurd (omega (arith, e))
      more (suc zero) e q m =
          absurd (true≢false (sym (one-helps e) ∙ first_below helps (length l) 0 (omega (arith, e, m))))
      more (suc (suc n)) e q m = omega (arith, e)

  -- What the call promises of the answer that a match has told.
  pub promised : (a : WayAnswer) → a ≡ way_answer t rs p used root → (old : ℕ)
      → WayPromise t rs p used root (way_number a) (line_out a old)
  promised a e old = promised_of a (subst Both (sym e) judged) old
