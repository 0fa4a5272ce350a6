-- The merging of values that carry their lines (02, 2.6): each conjunct gives its values under its own number, counted
-- from 0 in the order of the walk, one reached twice each time.
use Rattle.std.specs.Prelude.{List, [], ◌∷◌, map, ℕ, suc}
use Rattle.truth.specs.FromBytes.{aexpr_at}
use Rattle.constraints.specs.Comparisons.{ColumnComparison}
use Rattle.constraints.specs.Lined.{Lined, on_line, lined}
use Rattle.constraints.specs.Mapped.{map_constraint, map_comparison}
use Rattle.merge.specs.Classify.{Conjunct, Bounds, Normalized, Equality, Recorded, NonNullPair, Opaque}
use Rattle.merge.specs.Classify.{read_conjuncts}
use Rattle.merge.specs.Emit.{Outcome, Unchanged, NothingPasses, Rebuilt, merge_filter_constraints}

abbrev pub map_conjunct : {A B : Type 0} → (A → B) → Conjunct A → Conjunct B
map_conjunct f (Bounds c l) = Bounds c (map (map_constraint f) l)
map_conjunct f (Normalized c l) = Normalized c (map (map_constraint f) l)
map_conjunct f (Equality a b n) = Equality a b n
map_conjunct f (Recorded stops n c l) = Recorded stops n c (map (map_constraint f) l)
map_conjunct f (NonNullPair n a b) = NonNullPair n a b
map_conjunct f (Opaque n) = Opaque n

-- The comparisons of an outcome, each with its column.
abbrev pub map_comparisons : {A B : Type 0} → (A → B) → List (ℕ × ColumnComparison A) → List (ℕ × ColumnComparison B)
map_comparisons f [] = []
map_comparisons f (x ∷ l) = (x.0, map_comparison f x.1) ∷ map_comparisons f l

abbrev pub map_outcome : {A B : Type 0} → (A → B) → Outcome A → Outcome B
map_outcome f Unchanged = Unchanged
map_outcome f NothingPasses = NothingPasses
map_outcome f (Rebuilt ns cs) = Rebuilt ns (map_comparisons f cs)

-- Conjuncts under their numbers, counted from i.
unfoldable pub lines_from : ℕ → List (Conjunct ℕ) → List (Conjunct Lined)
lines_from i [] = []
lines_from i (c ∷ l) = map_conjunct (on_line i) c ∷ lines_from (suc i) l

-- The merging of a screen's lines.
abbrev pub lined_outcome : List ℕ → List ℕ → ℕ → ℕ → Outcome Lined
lined_outcome rs p used root =
    merge_filter_constraints lined (lines_from 0 (read_conjuncts (aexpr_at rs p used) root))
