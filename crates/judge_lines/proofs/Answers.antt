-- The answers of the lines in an array.
use mathlib.Core.Path.{◌≡◌, sym, ◌∙◌, ap}
use mathlib.Core.Bool.{Bool, true, false, not, cond}
use mathlib.Core.List.{List}
use Prim.Native.Nat.{ℕ, ◌≤◌, ◌<◌}
use lib.ListN.{length}
use borrow.Author.Tests.{lt-ltb, le-ltb, not-true, not-false}
use Rattle.truth.specs.AExpr.{AExpr}
use Rattle.read_operands.specs.Walk.{first_of}
use Rattle.read_operands.proofs.Walks.{first-length}
use Rattle.judge_lines.specs.WayAnswer as way
use Rattle.judge_lines.specs.Lines.{without, nothing_passes, first_true}
use Rattle.judge_lines.specs.Answer.{line_of, line_answer}

module _ (R : ℕ → AExpr ℕ) (nodes : List ℕ) (n : ℕ) (b : Bool) (e : b ≡ nothing_passes R (first_of nodes n)) where
  pub line-passes : not b ≡ true → way.Passes ≡ line_answer R (first_of nodes n)
  line-passes h =
      ap (λ x. cond x (line_of (length (first_of nodes n))
      (first_true (λ i. not (nothing_passes R (without i (first_of nodes n)))) (length (first_of nodes n)))) way.Passes)
      (sym (sym e ∙ not-true b h))

  module _ (h : not b ≡ false) (i : ℕ)
      (f : i ≡ first_true (λ j. not (nothing_passes R (without j (first_of nodes n)))) n) where
    line_at : line_of n i ≡ line_answer R (first_of nodes n)
    line_at =
        ap (line_of n) f
        ∙ ap (λ m. line_of m (first_true (λ j. not (nothing_passes R (without j (first_of nodes n)))) m))
        (sym (first-length nodes n))
        ∙ ap (λ x. cond x (line_of (length (first_of nodes n))
        (first_true (λ j. not (nothing_passes R (without j (first_of nodes n)))) (length (first_of nodes n)))) way.Passes)
        (sym (sym e ∙ not-false b h))

    pub line-found : i < n → way.Line i ≡ line_answer R (first_of nodes n)
    line-found l = ap (λ x. cond x (way.Line i) way.NoLine) (sym (lt-ltb i n l)) ∙ line_at

    pub line-none : n ≤ i → way.NoLine ≡ line_answer R (first_of nodes n)
    line-none l = ap (λ x. cond x (way.Line i) way.NoLine) (sym (le-ltb i n l)) ∙ line_at
