-- The reasons of a rebuilt screen (02, 2.6): of each comparison that is written, the column, the operator, the value and
-- the line behind it. A value is shown as a whole number, or as the bytes of a symbol (2.10).
use Rattle.std.specs.Prelude.{◌≡◌, cond, List, [], ◌∷◌, map, ℕ, eqb, ℤ, get_or}
use Rattle.std.specs.Int.{w64}
use Rattle.std.proofs.Common.{to_z}
use Rattle.truth.specs.Comparison.{Comparison, Eq}
use Rattle.symbols.specs.Symbol.{symbol}
use Rattle.constraints.specs.Column.{ColumnConstraints}
use Rattle.constraints.specs.Comparisons.{ColumnComparison, collect_column_comparisons}
use Rattle.constraints.specs.Lined.{Lined, lined}
use Rattle.constraints.specs.LineKept.{OneOf, bound_value}
use Rattle.merge.specs.Emit.{Outcome, Unchanged, NothingPasses, Rebuilt, of_column}
use Rattle.merge.specs.Lines.{lined_outcome}
use Rattle.merge.specs.Rebuild.{comparison_of, value_of}

pub data ReasonValue : Type 0 where
  Whole : ℤ → ReasonValue
  Bytes : List ℕ → ReasonValue

pub record Reason : Type 0 where
  pub column : ℕ
  pub operator : Comparison
  pub value : ReasonValue
  -- the number of the conjunct that gave it, from 0
  pub line : ℕ

-- How the 64 bits of a column's value are shown: as their signed number,
abbrev pub as_number : ℕ → ℕ → ReasonValue
as_number column bits = Whole (to_z w64 bits)

-- or by the column's type, those of a Text column as the bytes that they name. t is the column table, text the text pool.
unfoldable pub shown_in : List ℕ → List ℕ → ℕ → ℕ → ReasonValue
shown_in t text column bits = cond (eqb (get_or t column 0) 4) (Bytes (symbol text bits)) (as_number column bits)

abbrev pub reason_of : (ℕ → ℕ → ReasonValue) → (ℕ × ColumnComparison Lined) → Reason
reason_of shows x =
    record {
      column = x.0;
      operator = comparison_of x.1;
      value = shows x.0 (value_of x.1).bits;
      line = (value_of x.1).line;
    }

-- One for each comparison, in the order in which they are written; none for the other answers.
abbrev pub reasons_of : (ℕ → ℕ → ReasonValue) → Outcome Lined → List Reason
reasons_of shows Unchanged = []
reasons_of shows NothingPasses = []
reasons_of shows (Rebuilt ns cs) = map (reason_of shows) cs

-- Of a screen without symbols: rs the records, p the pool.
abbrev pub screen_reasons : List ℕ → List ℕ → ℕ → ℕ → List Reason
screen_reasons rs p used root = reasons_of as_number (lined_outcome rs p used root)

-- "An equality made of two bounds names the lower bound's line": whatever the column is.
abbrev pub EqualityNamesLower : Type 0
EqualityNamesLower =
    (shows : ℕ → ℕ → ReasonValue) (c : ℕ) (cc : ColumnConstraints Lined) (r : Reason) →
    OneOf r (map (reason_of shows) (of_column c (collect_column_comparisons lined cc))) → r.operator ≡ Eq →
    map (λ v. v.line) (bound_value cc.lower) ≡ r.line ∷ []
