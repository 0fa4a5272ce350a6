-- Rewriting a screen with symbols and the reasons of a rewritten one (02, 2.6 and 2.10): the answer, the records and the text.
-- text is the text pool, t the column table, rs the records, p the pool, `len` the length of the lent text buffer.
use Rattle.std.specs.Prelude.{List, [], map, ℕ, length}
use Rattle.std.specs.Int.{w64}
use Rattle.std.proofs.Common.{to_z}
use Rattle.symbols.specs.Symbol.{symbol}
use Rattle.constraints.specs.Comparisons.{ColumnComparison}
use Rattle.merge.specs.declared.answer.RewriteAnswer.{RewriteAnswer}
use Rattle.merge.specs.Emit.{Outcome, Unchanged, NothingPasses, Rebuilt}
use Rattle.merge.specs.Reasons.{ReasonValue, Whole, Bytes, Reason}
use Rattle.merge.specs.Rebuild.{comparison_of, value_of}
use Rattle.merge.specs.Rewrite.{written_if}
use Rattle.merge.specs.Write.{outcome_bytes}
use Rattle.reasons.specs.Text.{reasons_text}
use Rattle.reasons.specs.Explained.{refuse_long}
use Rattle.symbol_screens.specs.Held.{Held, Number, Symbol}
use Rattle.symbol_screens.specs.Rewriting.{outcome_with, rewrite_answer_with}
use Rattle.symbol_reasons.specs.Lined.{LinedHeld, lined_outcome_with}

-- A symbol is shown as its bytes, wherever they lie; a number as the signed number of its 64 bits.
abbrev pub held_shown : List ℕ → Held → ReasonValue
held_shown text (Number v) = Whole (to_z w64 v)
held_shown text (Symbol v) = Bytes (symbol text v)

abbrev pub held_reason : List ℕ → (ℕ × ColumnComparison LinedHeld) → Reason
held_reason text x =
    record {
      column = x.0;
      operator = comparison_of x.1;
      value = held_shown text (value_of x.1).held;
      line = (value_of x.1).line;
    }

abbrev pub held_reasons : List ℕ → Outcome LinedHeld → List Reason
held_reasons text Unchanged = []
held_reasons text NothingPasses = []
held_reasons text (Rebuilt ns cs) = map (held_reason text) cs

unfoldable pub explained_text_with : List ℕ → List ℕ → List ℕ → ℕ → ℕ → List ℕ
explained_text_with text rs p used root = reasons_text (held_reasons text (lined_outcome_with text rs p used root))

-- 16 after 11, for a lent text buffer that cannot hold the text.
unfoldable pub explained_answer_with : List ℕ → List ℕ → List ℕ → List ℕ → ℕ → ℕ → ℕ → RewriteAnswer
explained_answer_with text t rs p used root len =
    refuse_long (length (explained_text_with text rs p used root)) len (rewrite_answer_with text t rs p used root)

-- The records' bytes at exit.
unfoldable pub explained_bytes_with : List ℕ → List ℕ → List ℕ → List ℕ → ℕ → ℕ → ℕ → List ℕ
explained_bytes_with text t rs p used root len =
    written_if (explained_answer_with text t rs p used root len) rs (outcome_bytes t rs used (outcome_with text rs p used root))
