-- The number of the conjunct that first required a column to be null, or not null (02, 2.6).
use Rattle.std.specs.Prelude.{◌≡◌, Bool, true, false, List, ℕ, ◌+◌, ◌<◌, ◌≤◌, get_or}
use Rattle.truth.specs.AExpr.{AExpr}
use Rattle.constraints.specs.declared.column.Nullability.{Nullability}
use Rattle.constraints.specs.declared.column.Nullability.TheVariants.{Unconstrained, Null, NonNull}
use Rattle.column_constraints.specs.declared.column.ColumnConstraints.{ColumnConstraints}
use Rattle.column_table.specs.State.{collect_to}
use Rattle.column_table.specs.Words.{past_column}

abbrev pub is_required : Nullability → Bool
is_required Unconstrained = false
is_required Null = true
is_required NonNull = true

-- Is something required of column a after the first i conjuncts.
abbrev pub required_after : (ℕ → AExpr ℕ) → List ℕ → ℕ → ℕ → Bool
required_after R nodes i a = is_required ((collect_to R nodes i).constraints a).nullability

-- Of the first i conjuncts, j is the first after which something is required of column a; it still is.
pub record FirstRequires (R : ℕ → AExpr ℕ) (nodes : List ℕ) (i a j : ℕ) : Type 0 where
  pub below : j < i
  pub before : (k : ℕ) → k ≤ j → required_after R nodes k a ≡ false
  pub after : required_after R nodes (j + 1) a ≡ true
  pub still : required_after R nodes i a ≡ true

-- What the number held says, after i conjuncts.
pub data NullLine (R : ℕ → AExpr ℕ) (nodes : List ℕ) (i a line : ℕ) : Type 0 where
  not_yet : ((k : ℕ) → k ≤ i → required_after R nodes k a ≡ false) → NullLine R nodes i a line
  first : FirstRequires R nodes i a line → NullLine R nodes i a line

abbrev pub NullLines : (ℕ → AExpr ℕ) → List ℕ → ℕ → List ColumnConstraints → Type 0
NullLines R nodes i table = (a : ℕ) → a < 64 → NullLine R nodes i a (get_or table a past_column).since

-- A table that conjunct j turned into another: what was required keeps its number, what is new has j.
pub record NullKept (table table' : List ColumnConstraints) (j : ℕ) : Type 0 where
  pub stays :
      (a : ℕ) → a < 64 → is_required (get_or table a past_column).nullability ≡ true →
      ((get_or table' a past_column).since ≡ (get_or table a past_column).since) ×
      (is_required (get_or table' a past_column).nullability ≡ true)
  pub new :
      (a : ℕ) → a < 64 → is_required (get_or table a past_column).nullability ≡ false →
      is_required (get_or table' a past_column).nullability ≡ true → (get_or table' a past_column).since ≡ j
