-- Quiet edges: equalities whose columns have nothing to tell each other, so that a pass may leave them out. Which these are
-- is known by a word with a bit for each column that changed.
use Rattle.std.specs.Prelude.{◌≡◌, false, List, ℕ, ◌<◌, get_or, eqb}
use Rattle.checking.specs.Columns.{bit}
use Rattle.constraints.specs.Column.{ColumnConstraints, merge_from, merge_any}
use Rattle.constraints.specs.Lined.{Lined, lined}
use Rattle.column_table.specs.State.{ColumnTable}

-- Neither column's constraints change the other's.
pub record TellNothing (q r : ColumnConstraints Lined) : Type 0 where
  pub right : merge_from lined r q ≡ r
  pub right-any : merge_any lined r q ≡ false
  pub left : merge_from lined q r ≡ q
  pub left-any : merge_any lined q r ≡ false

-- The edge of columns a and b changes nothing in the table; one of a column to itself never does.
abbrev pub QuietEdge : ColumnTable → ℕ → ℕ → Type 0
QuietEdge T a b = eqb a b ≡ false → TellNothing (T a) (T b)

-- It is so, if neither column has its bit in the word.
pub record QuietUnless (T : ColumnTable) (word a b : ℕ) : Type 0 where
  pub still : bit word a ≡ false → bit word b ≡ false → QuietEdge T a b

-- And so of the first n edges.
pub record QuietEdges (T : ColumnTable) (lefts rights : List ℕ) (n word : ℕ) : Type 0 where
  pub edge : (e : ℕ) → e < n → QuietUnless T word (get_or lefts e 0) (get_or rights e 0)

-- What the word of an edge a b says, which made the table U of T: a column without its bit is as it was, and the edge is
-- quiet then unless it set a bit of its own.
pub record Noted (T U : ColumnTable) (a b word : ℕ) : Type 0 where
  pub same : (c : ℕ) → c < 64 → bit word c ≡ false → U c ≡ T c
  pub quiet : QuietUnless U word a b
