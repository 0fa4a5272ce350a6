-- What the merging of the conjuncts in an array answers and leaves, by the table of columns that it concludes with: `cells` as
-- they are merged, `converted` as they are written. o is the merging's outcome with lines, s the tables of the conjuncts.
-- Of a screen with symbols `own` are the records sent, `bits` their literals and `text` the text pool.
use Rattle.std.specs.Prelude.{◌≡◌, Bool, true, false, List, ℕ, ◌<◌, ◌≤◌, length, get_or}
use Rattle.truth.specs.FromBytes.{aexpr_of}
use Rattle.constraints.specs.Lined.{Lined, lined}
use Rattle.column_constraints.specs.Abstraction.{Conjuncts}
use Rattle.column_reasons.specs.ColumnText.{table_text}
use Rattle.column_table.specs.State.{ColumnTable, Shows, Fits, shown, bits_of}
use Rattle.column_table.specs.Words.{columns_of}
use Rattle.merge.specs.Emit.{Outcome, NothingPasses, Rebuilt, comparisons}
use Rattle.merge.specs.Reasons.{shown_in}
use Rattle.merge.specs.Rewrite.{written_if}
use Rattle.merge.specs.Write.{outcome_bytes}
use Rattle.merge.specs.declared.answer.RewriteAnswer.TheVariants as answer
use Rattle.merge.specs.declared.answer.Rewriting.{Rewriting}
use Rattle.read_operands.specs.Walk.{first_of}
use Rattle.reasons.specs.Explained.{refuse_long, text_if, length_if}
use Rattle.reckoning.specs.Reckon.{reckoned, reckoned_answer}
use Rattle.symbol_columns.specs.Literals.{literal_table}
use Rattle.filter_constraint.specs.Concluded.{Concluded}

-- The Text columns hold literals of the records `own`; without such records nothing changes.
pub record Converted (t own nodes cells converted : List ℕ) : Type 0 where
  pub same : length own ≡ 0 → converted ≡ cells
  pub literals : 0 < length own → (p : List ℕ) (s : Conjuncts) (marks : List ℕ) (T : ColumnTable) →
      Shows s (columns_of cells) marks T → Shows s (columns_of converted) marks (literal_table t (aexpr_of own p) nodes T)
  pub size : length converted ≡ length cells

-- What is asked: a table so converted, whatever it is, has as many comparisons.
pub record Counts (o : Outcome Lined) (s : Conjuncts) (t own nodes bits : List ℕ) : Type 0 where
  pub few : 0 < length own → length t ≤ 64
  pub counts : (cells converted marks order kept : List ℕ) (unsat unchanged : Bool) (columns keeps total : ℕ) →
      Concluded o (shown s (columns_of cells) marks) order kept unsat unchanged columns keeps total → Fits cells marks →
      unsat ≡ false → unchanged ≡ false → ((i : ℕ) → i < columns → get_or order i 0 < 64) → Converted t own nodes cells converted →
      (u : Conjuncts) → u.kinds ≡ s.kinds → u.values ≡ bits →
      total ≡ length (comparisons lined (first_of order columns) (shown u (columns_of converted) marks))

-- The answer, the records and the text at exit, of each end.
abbrev pub Stopped : List ℕ → List ℕ → List ℕ → List ℕ → ℕ → Rewriting → List ℕ → List ℕ → Type 0
Stopped t rs trees buffer used r out after =
    (r.answer ≡ reckoned_answer (length rs) trees used NothingPasses)
    × ((out ≡ written_if r.answer rs (outcome_bytes t rs used NothingPasses)) × ((after ≡ buffer) × (r.length ≡ 0)))

abbrev pub Stayed : List ℕ → List ℕ → Rewriting → List ℕ → List ℕ → Type 0
Stayed rs buffer r out after =
    (r.answer ≡ answer.Unchanged) × ((out ≡ rs) × ((after ≡ buffer) × (r.length ≡ 0)))

-- A chain of the kept nodes ns and the comparisons of the table T in this order, so many.
abbrev pub Chained : List ℕ → List ℕ → List ℕ → List ℕ → List ℕ → ℕ → List ℕ → List ℕ → ℕ → ColumnTable → Rewriting → List ℕ →
    List ℕ → Type 0
Chained t rs trees text buffer used ns order total T r out after =
    (r.answer ≡ refuse_long (length (table_text (shown_in t text) order T)) (length buffer) (reckoned (length rs) trees used ns total))
    × ((out ≡ written_if r.answer rs (outcome_bytes t rs used (Rebuilt ns (bits_of (comparisons lined order T)))))
    × ((after ≡ text_if r.answer buffer (table_text (shown_in t text) order T))
    × (r.length ≡ length_if r.answer (table_text (shown_in t text) order T))))

pub record Merges (o : Outcome Lined) (s : Conjuncts) (t rs trees nodes bits own text buffer : List ℕ) (used : ℕ) (r : Rewriting)
    (out after : List ℕ) : Type 0 where
  pub cells : List ℕ
  pub converted : List ℕ
  pub marks : List ℕ
  pub order : List ℕ
  pub kept : List ℕ
  pub unsat : Bool
  pub unchanged : Bool
  pub columns : ℕ
  pub keeps : ℕ
  pub total : ℕ
  pub concluded : Concluded o (shown s (columns_of cells) marks) order kept unsat unchanged columns keeps total
  pub fits : Fits cells marks
  pub low : (i : ℕ) → i < columns → get_or order i 0 < 64
  pub stops : unsat ≡ true → Stopped t rs trees buffer used r out after
  pub stays : unsat ≡ false → unchanged ≡ true → Stayed rs buffer r out after
  pub converts : unsat ≡ false → unchanged ≡ false → Converted t own nodes cells converted
  pub chains : unsat ≡ false → unchanged ≡ false → (u : Conjuncts) → u.kinds ≡ s.kinds → u.values ≡ bits →
      Chained t rs trees text buffer used (first_of kept keeps) (first_of order columns) total (shown u (columns_of converted) marks) r
      out after
