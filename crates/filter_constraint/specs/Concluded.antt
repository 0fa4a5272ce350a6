-- What the merging of the first n nodes of an array concludes, as the slices hold it: T is the table of resolved columns.
use Rattle.std.specs.Prelude.{◌≡◌, Bool, true, false, List, map, ℕ, length}
use Rattle.truth.specs.AExpr.{AExpr}
use Rattle.constraints.specs.Column as q
use Rattle.constraints.specs.Lined.{Lined, lined}
use Rattle.merge.specs.Classify.{classify}
use Rattle.merge.specs.Emit.{Outcome, Unchanged, NothingPasses, Rebuilt, comparisons, merge_filter_constraints}
use Rattle.merge.specs.Lines.{lines_from}
use Rattle.read_operands.specs.Walk.{first_of}

abbrev pub lined_to : (ℕ → AExpr ℕ) → List ℕ → ℕ → Outcome Lined
lined_to R nodes n = merge_filter_constraints lined (lines_from 0 (map (classify R) (first_of nodes n)))

pub record Concluded (o : Outcome Lined) (T : ℕ → q.ColumnConstraints Lined) (order kept : List ℕ) (unsat unchanged : Bool)
    (columns keeps total : ℕ) : Type 0 where
  pub stops : unsat ≡ true → o ≡ NothingPasses
  pub stays : unsat ≡ false → unchanged ≡ true → o ≡ Unchanged
  pub rebuilds : unsat ≡ false → unchanged ≡ false →
      o ≡ Rebuilt (first_of kept keeps) (comparisons lined (first_of order columns) T)
  pub counted : unsat ≡ false → total ≡ length (comparisons lined (first_of order columns) T)
