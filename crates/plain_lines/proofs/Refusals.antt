-- The refusal by the steps of the code: checking, 8, 9, 17; and what is known of a screen that is not refused.
use mathlib.Core.Path.{◌≡◌, refl, sym, ◌∙◌, ap}
use mathlib.Core.Bool.{Bool, true, false, cond}
use mathlib.Core.List.{List}
use mathlib.Core.Option.{none, some, none-ne-some}
use Prim.Native.Nat.{ℕ, ◌≤◌, ◌<◌}
use lib.Dec.{ltb, leb}
use lib.ListN.{length}
use borrow.Author.Tests.{lt-ltb, le-ltb, leb-true}
use Rattle.records.proofs.Laws.{and_left}
use Rattle.checking.specs.Check.{check_answer, table_ok, table_ok_in, types_known}
use Rattle.checking.specs.Checked.{Checked}
use Rattle.checking.specs.Tree.{tree_count}
use Rattle.checking.specs.Answer.{CheckAnswer}
use Rattle.checking.specs.Answer as check
use Rattle.checking.proofs.Accepted.{checked}
use Rattle.truth.specs.FromBytes.{aexpr_at}
use Rattle.merge.specs.Minterms.{minterms}
use Rattle.merge.specs.Plain.{plain_screen}
use Rattle.read_operands.specs.Walk.{walked}
use Rattle.reading.proofs.Screens.{minterms-walked}
use Rattle.plain_lines.specs.Refusal.{checked_refusal, refusal_if, plain_refusal}

-- A screen that is refused in checking is refused.
pub refused-first : (t rs p : List ℕ) (used root k : ℕ) → check_answer t rs p used root ≡ check.Refused k
    → some k ≡ plain_refusal t rs p used root
unfolding plain_refusal
refused-first t rs p used root k e = sym (ap (λ c. refusal_if c (checked_refusal t rs p used root)) e)

module _ (t rs p : List ℕ) (used root : ℕ) (ok : check_answer t rs p used root ≡ check.Accepted) where
  on : (b c d : Bool) → ltb 4096 (tree_count rs root) ≡ b → ltb 128 (length (minterms (walked rs) root)) ≡ c
      → plain_screen t (aexpr_at rs p used) root ≡ d
      → cond b (some 8) (cond c (some 9) (cond d none (some 17))) ≡ plain_refusal t rs p used root
  unfolding plain_refusal
  on b c d e f g =
      sym (ap (λ a. refusal_if a (checked_refusal t rs p used root)) ok
      ∙ ap (λ b. cond b (some 8) (cond (ltb 128 (length (minterms (aexpr_at rs p used) root))) (some 9)
      (cond (plain_screen t (aexpr_at rs p used) root) none (some 17)))) e
      ∙ ap (λ c. cond b (some 8) (cond c (some 9) (cond (plain_screen t (aexpr_at rs p used) root) none (some 17))))
      (ap (λ l. ltb 128 (length l)) (minterms-walked t rs p used root (checked t rs p used root ok)) ∙ f)
      ∙ ap (λ d. cond b (some 8) (cond c (some 9) (cond d none (some 17)))) g)

  pub refused-8 : 4096 < tree_count rs root → some 8 ≡ plain_refusal t rs p used root
  refused-8 h =
      on true (ltb 128 (length (minterms (walked rs) root))) (plain_screen t (aexpr_at rs p used) root)
      (lt-ltb 4096 (tree_count rs root) h) refl refl

  pub refused-9 : tree_count rs root ≤ 4096 → 128 < length (minterms (walked rs) root) → some 9 ≡ plain_refusal t rs p used root
  refused-9 h k =
      on false true (plain_screen t (aexpr_at rs p used) root) (le-ltb 4096 (tree_count rs root) h)
      (lt-ltb 128 (length (minterms (walked rs) root)) k) refl

  module _ (h : tree_count rs root ≤ 4096) (k : length (minterms (walked rs) root) ≤ 128) where
    pub refused-17 : plain_screen t (aexpr_at rs p used) root ≡ false → some 17 ≡ plain_refusal t rs p used root
    refused-17 f =
        on false false false (le-ltb 4096 (tree_count rs root) h) (le-ltb 128 (length (minterms (walked rs) root)) k) f

    pub refused-not : plain_screen t (aexpr_at rs p used) root ≡ true → none ≡ plain_refusal t rs p used root
    refused-not f =
        on false false true (le-ltb 4096 (tree_count rs root) h) (le-ltb 128 (length (minterms (walked rs) root)) k) f

-- The table of a checked screen has at most 64 columns.
pub table-few : (t rs p : List ℕ) (used root : ℕ) → Checked t rs p used root → length t ≤ 64
unfolding table_ok_in
table-few t rs p used root ok = leb-true (length t) 64 (and_left (leb (length t) 64) (types_known t) ok.table)

-- A screen that is not refused was accepted and is plain.
pub record Plain (t rs p : List ℕ) (used root : ℕ) : Type 0 where
  pub accepted : check_answer t rs p used root ≡ check.Accepted
  pub plain : plain_screen t (aexpr_at rs p used) root ≡ true

pub not-refused : (t rs p : List ℕ) (used root : ℕ) → none ≡ plain_refusal t rs p used root → Plain t rs p used root
unfolding plain_refusal
not-refused t rs p used root = go (check_answer t rs p used root) refl
  where
    last : (i j k : ℕ) (b c d : Bool) → none ≡ cond b (some i) (cond c (some j) (cond d none (some k))) → d ≡ true
    last i j k true c d e = absurd (none-ne-some i e)
    last i j k false true d e = absurd (none-ne-some j e)
    last i j k false false true e = refl
    last i j k false false false e = absurd (none-ne-some k e)

    go : (a : CheckAnswer) → check_answer t rs p used root ≡ a → none ≡ refusal_if a (checked_refusal t rs p used root)
        → Plain t rs p used root
    go (check.Refused k) e h = absurd (none-ne-some k h)
    go check.Accepted e h =
        record {
          accepted = e;
          plain = last 8 9 17 (ltb 4096 (tree_count rs root)) (ltb 128 (length (minterms (aexpr_at rs p used) root)))
              (plain_screen t (aexpr_at rs p used) root) h;
        }
