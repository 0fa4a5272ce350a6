-- What a reader of a line may rely on where symbols are (as statements, proved in proofs/LineBehind.antt): the conjunct of the
-- number that a reason names was written for the reason's column, or for one that equalities join to it, and gives just that
-- limit: a value of the same key, and so of the same bytes wherever they lie. As `ReasonsGiven` without symbols.
use Rattle.std.specs.Prelude.{◌≡◌, Bool, List, [], ◌∷◌, ℕ, ℤ}
use Rattle.std.proofs.Math.Option.{some}
use Rattle.std.proofs.Math.ListN.{get_elem?}
use Rattle.truth.specs.AExpr.{AExpr}
use Rattle.constraints.specs.Bound.{at}
use Rattle.constraints.specs.Column.{Constraint}
use Rattle.constraints.specs.Comparisons.{ColumnComparison}
use Rattle.constraints.specs.LineKept.{Limit, OneOf, given_as, bound_value}
use Rattle.constraints.specs.Resolve.{open_at}
use Rattle.merge.specs.Classify.{Conjunct, read_conjuncts}
use Rattle.merge.specs.Emit.{Outcome, Unchanged, NothingPasses, Rebuilt, merge_filter_constraints}
use Rattle.merge.specs.LineBehind.{Joined, bounds_of, limit_of}
use Rattle.merge.specs.Passes.{equalities}
use Rattle.merge.specs.Rebuild.{comparison_of, value_of}
use Rattle.symbol_screens.specs.Held.{Held, key_in}
use Rattle.symbol_reasons.specs.Lined.{LinedHeld, held_on_line, holding_lined, held_lines_from}

-- Conjunct number `line` of l gives a column joined to c a value of this key as this limit.
pub record HeldGivenBy (text : List ℕ) (l : List (Conjunct Held)) (c : ℕ) (limit : Limit) (key : ℤ) (line : ℕ) : Type 0 where
  pub conjunct : Conjunct Held
  pub numbered : get_elem? l line ≡ some conjunct
  pub column : ℕ
  pub constraints : List (Constraint Held)
  pub bounds : bounds_of conjunct ≡ some (column, constraints)
  pub joined : Joined (equalities l) column c
  pub constraint : Constraint Held
  pub among : OneOf constraint constraints
  pub value : Held
  pub gives : OneOf value (given_as constraint limit)
  pub same : key_in text value ≡ key

-- The comparisons that are written.
abbrev pub compared : Outcome LinedHeld → List (ℕ × ColumnComparison LinedHeld)
compared Unchanged = []
compared NothingPasses = []
compared (Rebuilt ns cs) = cs

-- Each comparison written of a screen, whatever its records.
abbrev pub LinesGiven : Type 0
LinesGiven =
    (text : List ℕ) (R : ℕ → AExpr Held) (root : ℕ) (x : ℕ × ColumnComparison LinedHeld) →
    let l = read_conjuncts R root in
    OneOf x (compared (merge_filter_constraints (holding_lined text) (held_lines_from 0 l))) →
    HeldGivenBy text l x.0 (limit_of (comparison_of x.1)) (key_in text (value_of x.1).held) (value_of x.1).line

-- An excluded value that opens a bound gives it its start, while the number stays the bound's.
abbrev pub OpeningTakesStart : Type 0
OpeningTakesStart =
    (text : List ℕ) (inclusive : Bool) (bound v : LinedHeld) →
    bound_value (open_at (holding_lined text) (at inclusive bound) v) ≡ held_on_line bound.line v.held ∷ []
