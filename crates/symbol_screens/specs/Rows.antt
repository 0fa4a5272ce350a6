-- Rows of a screen with symbols: those that a host sends, and those of demand 3.
use Rattle.std.specs.Prelude.{◌≡◌, Bool, true, cond, List, ℕ, ◌≤◌, ◌<◌, ℤ, pos, length, get_or}
use Rattle.std.proofs.Math.Option.{Option, none, some}
use Rattle.records.specs.Bytes.{value_at}
use Rattle.three_valued.specs.declared.logic.Truth.{Truth}
use Rattle.three_valued.specs.Logic.{is_true}
use Rattle.truth.specs.Halves.{ord_z, twice}
use Rattle.truth.specs.AExpr.{AExpr}
use Rattle.truth.specs.Cell.{truth_at}
use Rattle.truth.specs.FromBytes.{null_marked, truth_keys}
use Rattle.symbols.specs.Symbol.{number_of}
use Rattle.merge.specs.Plain.{is_number_column, reaches_division}
use Rattle.merge.specs.Demand.{Row, NullOrTruth, NullOrTyped}
use Rattle.symbol_screens.specs.Held.{Held, held, key_in}
use Rattle.symbol_screens.specs.Reading.{held_at}

-- The keys of a row of eight bytes a column, and its null marks: "a row's Text value packs likewise into the same pool".
unfoldable pub row_keys_with : List ℕ → List ℕ → List ℕ → ℕ → ℕ → Option ℤ
row_keys_with text t row nulls c =
    cond (null_marked nulls c) none (some (key_in text (held (get_or t c 0) (value_at row c))))

-- What a row of keys makes of record n.
abbrev pub truth_with : List ℕ → (ℕ → AExpr Held) → (ℕ → Option ℤ) → ℕ → Truth
truth_with text R row n = truth_at (key_in text) ord_z truth_keys R row n

-- In a Text column a row of demand 3 holds null or any symbol, 0 to 16 bytes, in the pool or not.
pub record IsSymbol (k : ℤ) : Type 0 where
  pub symbol : List ℕ
  pub short : length symbol ≤ 16
  pub bytes : (i : ℕ) → get_or symbol i 0 < 256
  pub is : k ≡ twice (pos (number_of 16 symbol))

abbrev pub NullOrSymbol : Option ℤ → Type 0
NullOrSymbol none = Unit {0}
NullOrSymbol (some k) = IsSymbol k

-- A row of demand 3, with Text columns: null or a truth, null or any symbol, and typed numbers where a division is reached.
pub record IsRowWith (t : List ℕ) (R : ℕ → AExpr ℕ) (root : ℕ) (row : Row) : Type 0 where
  pub truths : (c : ℕ) → c < length t → get_or t c 0 ≡ 3 → NullOrTruth (row c)
  pub symbols : (c : ℕ) → c < length t → get_or t c 0 ≡ 4 → NullOrSymbol (row c)
  pub typed : reaches_division R root ≡ true → (c : ℕ) → c < length t → is_number_column t c ≡ true → NullOrTyped (get_or t c 0) (row c)

-- R is `aexpr_at rs p used`: whether a division is reached does not depend on values.
abbrev pub passes_with : List ℕ → List ℕ → List ℕ → ℕ → ℕ → Row → Bool
passes_with text rs p used root row = is_true (truth_with text (held_at rs p used) row root)
