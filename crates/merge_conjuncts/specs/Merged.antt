-- What the merging of the first n nodes of an array answers, what it leaves of the records and of the text of the reasons.
-- `buffer` is the text buffer at entry.
use Rattle.std.specs.Prelude.{◌≡◌, List, map, ℕ, length}
use Rattle.truth.specs.FromBytes.{aexpr_of}
use Rattle.constraints.specs.Payload.{payload}
use Rattle.merge.specs.declared.answer.Rewriting.{Rewriting}
use Rattle.merge.specs.Classify.{classify}
use Rattle.merge.specs.Emit.{Outcome, merge_filter_constraints}
use Rattle.merge.specs.Passes.{merge_passes}
use Rattle.merge.specs.Write.{outcome_bytes}
use Rattle.merge.specs.Rewrite.{written_if}
use Rattle.reasons.specs.Explained.{refuse_long, text_if, length_if}
use Rattle.filter_constraint.specs.Explained.{nodes_text}
use Rattle.read_operands.specs.Walk.{first_of}
use Rattle.reckoning.specs.Reckon.{reckoned_answer}

-- The merging of the first n nodes.
abbrev pub merged_nodes : List ℕ → List ℕ → List ℕ → ℕ → Outcome ℕ
merged_nodes rs p nodes n = merge_filter_constraints payload (map (classify (aexpr_of rs p)) (first_of nodes n))

-- Their passes.
abbrev pub passes_nodes : List ℕ → List ℕ → List ℕ → ℕ → ℕ
passes_nodes rs p nodes n = merge_passes payload (map (classify (aexpr_of rs p)) (first_of nodes n))

pub record MergedNodes (t rs p : List ℕ) (used : ℕ) (trees nodes : List ℕ) (n : ℕ) (buffer : List ℕ) (r : Rewriting)
    (out after : List ℕ) : Type 0 where
  pub answers : r.answer ≡ refuse_long (length (nodes_text t rs p nodes n)) (length buffer)
      (reckoned_answer (length rs) trees used (merged_nodes rs p nodes n))
  pub writes : out ≡ written_if r.answer rs (outcome_bytes t rs used (merged_nodes rs p nodes n))
  pub counts : r.passes ≡ passes_nodes rs p nodes n
  pub tells : after ≡ text_if r.answer buffer (nodes_text t rs p nodes n)
  pub measures : r.length ≡ length_if r.answer (nodes_text t rs p nodes n)
