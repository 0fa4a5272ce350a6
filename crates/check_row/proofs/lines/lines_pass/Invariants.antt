use mathlib.Core.Path.{◌≡◌}
use mathlib.Core.Bool.{true}
use Prim.Native.Nat.{ℕ, ◌≤◌, ◌-◌}
use lib.ListN.{get_or}
use Rattle.records.specs.Bytes.{all}
use Rattle.truth.specs.FromBytes.{aexpr_of}
use Rattle.merge.specs.Classify.{classify}
use Rattle.places.specs.Places.{places_row}
use Rattle.check_row.specs.Line.{line_true}
use Rattle.check_row.proofs.lines.lines_pass.Given as goal

abbrev pub invariant-loop-i : goal.invariant-loop-i
invariant-loop-i l =
    (l.i ≤ l.n) × (all (λ (j : ℕ). line_true (places_row l.row l.nulls) (classify (aexpr_of l.rs l.p) (get_or l.nodes j 0))) l.i ≡
    true)
