-- What the merging of a screen with symbols promises: its answer, the records and the text of the reasons at exit. `buffer` is the
-- text buffer at entry.
use Rattle.std.specs.Prelude.{◌≡◌, false, List, ℕ, length}
use Rattle.merge.specs.Demand.{is_refused}
use Rattle.merge.specs.declared.answer.Rewriting.{Rewriting}
use Rattle.reasons.specs.Explained.{text_if, length_if}
use Rattle.symbol_screens.specs.Rewriting.{rewrite_passes_with}
use Rattle.symbol_reasons.specs.Explained.{explained_text_with, explained_answer_with, explained_bytes_with}

pub record Explains (text t rs p : List ℕ) (used root : ℕ) (buffer : List ℕ) (r : Rewriting) (out after : List ℕ) : Type 0 where
  pub answers : r.answer ≡ explained_answer_with text t rs p used root (length buffer)
  pub writes : out ≡ explained_bytes_with text t rs p used root (length buffer)
  pub counts : is_refused r.answer ≡ false → r.passes ≡ rewrite_passes_with text rs p used root
  pub tells : after ≡ text_if r.answer buffer (explained_text_with text rs p used root)
  pub measures : r.length ≡ length_if r.answer (explained_text_with text rs p used root)
