-- The text of the reasons that the merging of the first n nodes of an array has. t is the column table; no text pool is lent,
-- since the table of a screen without symbols has no Text column.
use Rattle.std.specs.Prelude.{List, [], map, ℕ}
use Rattle.truth.specs.FromBytes.{aexpr_of}
use Rattle.constraints.specs.Lined.{lined}
use Rattle.merge.specs.Classify.{classify}
use Rattle.merge.specs.Emit.{merge_filter_constraints}
use Rattle.merge.specs.Lines.{lines_from}
use Rattle.merge.specs.Reasons.{shown_in, reasons_of}
use Rattle.read_operands.specs.Walk.{first_of}
use Rattle.reasons.specs.Text.{reasons_text}

unfoldable pub nodes_text : List ℕ → List ℕ → List ℕ → List ℕ → ℕ → List ℕ
nodes_text t rs p nodes n =
    reasons_text (reasons_of (shown_in t [])
    (merge_filter_constraints lined (lines_from 0 (map (classify (aexpr_of rs p)) (first_of nodes n)))))
