-- `comparison_node` and `fold_and`: which records a rebuilt chain adds behind the used ones, and under which numbers.
-- A comparison adds column, literal, binary record; then come the Ands, left-deep.
use Rattle.std.specs.Prelude.{Bool, true, false, List, [], ◌∷◌, ◌++◌, ℕ, suc}
use Rattle.truth.specs.Comparison.{Comparison, Eq, NotEq, Lt, LtEq, Gt, GtEq}
use Rattle.constraints.specs.Comparisons.{ColumnComparison, IsEq, IsLower, IsUpper, IsNotEq}

abbrev pub comparison_of : {Val : Type 0} → ColumnComparison Val → Comparison
comparison_of (IsEq v) = Eq
comparison_of (IsLower true v) = GtEq
comparison_of (IsLower false v) = Gt
comparison_of (IsUpper true v) = LtEq
comparison_of (IsUpper false v) = Lt
comparison_of (IsNotEq v) = NotEq

abbrev pub value_of : {Val : Type 0} → ColumnComparison Val → Val
value_of (IsEq v) = v
value_of (IsLower inclusive v) = v
value_of (IsUpper inclusive v) = v
value_of (IsNotEq v) = v

-- The nodes of the comparisons written from number u on, and the first number behind them.
abbrev pub comparison_nodes : {Val : Type 0} → ℕ → List (ℕ × ColumnComparison Val) → List ℕ
comparison_nodes u [] = []
comparison_nodes u (x ∷ l) = suc (suc u) ∷ comparison_nodes (suc (suc (suc u))) l

abbrev pub comparisons_end : {Val : Type 0} → ℕ → List (ℕ × ColumnComparison Val) → ℕ
comparisons_end u [] = u
comparisons_end u (x ∷ l) = comparisons_end (suc (suc (suc u))) l

-- The Ands written from number u on, over what stands at `acc` and the nodes that follow: the last And, and the end.
abbrev pub and_root : ℕ → ℕ → List ℕ → ℕ
and_root u acc [] = acc
and_root u acc (n ∷ l) = and_root (suc u) u l

abbrev pub ands_end : ℕ → List ℕ → ℕ
ands_end u [] = u
ands_end u (n ∷ l) = ands_end (suc u) l

-- The root and the used count after `fold_and` of the conjuncts; a rebuilt chain is never without one.
abbrev pub fold_root : ℕ → List ℕ → ℕ
fold_root u [] = 0
fold_root u (n ∷ l) = and_root u n l

abbrev pub fold_used : ℕ → List ℕ → ℕ
fold_used u [] = u
fold_used u (n ∷ l) = ands_end u l
