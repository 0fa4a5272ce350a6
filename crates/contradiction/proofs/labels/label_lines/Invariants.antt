use mathlib.Core.Path.{◌≡◌}
use mathlib.Core.List.{List}
use Prim.Native.Nat.{ℕ, ◌-◌, ◌<◌, ◌≤◌}
use lib.ListN.{length, get_or}
use Rattle.truth.specs.FromBytes.{aexpr_of}
use Rattle.merge.specs.Classify.{classify}
use Rattle.reading.specs.Columns.{ColumnsBelow}
use Rattle.contradiction.specs.Labels.{lines_to, Labels}
use Rattle.contradiction.proofs.labels.label_lines.Given as goal

abbrev pub invariant-loop-i : goal.invariant-loop-i
invariant-loop-i l =
    (l.i ≤ l.n) × ((p : List ℕ) → ((j : ℕ) → j < l.n → ColumnsBelow 64 (classify (aexpr_of l.rs p) (get_or l.nodes j 0))) →
    Labels (lines_to (aexpr_of l.rs p) l.nodes l.i) l.labels) × (length l.labels ≡ length l.initial.labels)
