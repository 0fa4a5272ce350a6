-- What the answers of columns read hold, whatever text pool is lent.
use mathlib.Core.Path.{◌≡◌, refl, subst}
use mathlib.Core.Bool.{true, false, true≢false}
use mathlib.Core.List.{List}
use Prim.Native.Nat.{ℕ, ◌≤◌}
use Rattle.checking.specs.Check.{check_answer_in}
use lib.Count.{ones}
use Rattle.checking.specs.Columns.{columns_if, columns_word}
use Rattle.checking.specs.Answer.{CheckAnswer}
use Rattle.checking.specs.Answer as check
use Rattle.checking.specs.ReadAnswer as columns
use Rattle.checking.proofs.Answers.{refused-numbered-in}
use Rattle.symbol_rows.specs.ColumnsWith.{columns_answer_in}

-- a refusal's number is one of 1 to 7
pub columns-refused : (text : ℕ) (t rs p : List ℕ) (used root k : ℕ)
    → columns_answer_in text t rs p used root ≡ columns.Refused k → (1 ≤ k) × (k ≤ 7)
unfolding columns_answer_in
columns-refused text t rs p used root k = go (check_answer_in text t rs p used root) refl
  where
    go : (a : CheckAnswer) → check_answer_in text t rs p used root ≡ a
        → columns_if a (columns_word rs root) ≡ columns.Refused k → (1 ≤ k) × (k ≤ 7)
    go (check.Refused j) q e =
        let h : j ≡ k = cc in subst (λ n. (1 ≤ n) × (n ≤ 7)) h (refused-numbered-in text t rs p used root j q)
    go check.Accepted q e = let h : true ≡ false = cc in absurd (true≢false h)

-- else the word of the columns reached, and its ones
pub columns-found : (text : ℕ) (t rs p : List ℕ) (used root w n : ℕ)
    → columns_answer_in text t rs p used root ≡ columns.Read w n → (columns_word rs root ≡ w) × (ones w ≡ n)
unfolding columns_answer_in
columns-found text t rs p used root w n = go (check_answer_in text t rs p used root)
  where
    go : (a : CheckAnswer) → columns_if a (columns_word rs root) ≡ columns.Read w n
        → (columns_word rs root ≡ w) × (ones w ≡ n)
    go (check.Refused j) e = let h : true ≡ false = cc in absurd (true≢false h)
    go check.Accepted e =
        let h : columns_word rs root ≡ w = cc in let k : ones (columns_word rs root) ≡ n = cc in (h, subst (λ x. ones x ≡ n) h k)
