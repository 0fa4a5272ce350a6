-- What is answered of the lines of a plain screen: whether a row passes already, and if none does the first line whose removal
-- makes some row pass.
use Rattle.std.specs.Prelude.{cond, not, List, ℕ, ltb, length}
use Rattle.truth.specs.AExpr.{AExpr}
use Rattle.judge_lines.specs.WayAnswer.{WayAnswer}
use Rattle.judge_lines.specs.WayAnswer as way
use Rattle.judge_lines.specs.Lines.{without, nothing_passes, first_true}

-- Line i, or that none of n lines is it.
abbrev pub line_of : ℕ → ℕ → WayAnswer
line_of n i = cond (ltb i n) (way.Line i) way.NoLine

-- Of the lines of a plain screen.
abbrev pub line_answer : (ℕ → AExpr ℕ) → List ℕ → WayAnswer
line_answer R nodes =
    cond (nothing_passes R nodes)
    (line_of (length nodes) (first_true (λ i. not (nothing_passes R (without i nodes))) (length nodes))) way.Passes
