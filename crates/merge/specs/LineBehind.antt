-- What a reader of a line may rely on (as statements, proved in proofs/LineBehind.antt and FirstGave.antt): the conjunct of the
-- number that a reason names was written for the reason's column, or for one that equalities join to it, and gives just
-- that limit.
use Rattle.std.specs.Prelude.{◌≡◌, cond, List, [], ◌∷◌, ◌++◌, ℕ, eqb}
use Rattle.std.proofs.Math.Option.{Option, none, some}
use Rattle.std.proofs.Math.ListN.{get_elem?}
use Rattle.std.specs.Int.{w64}
use Rattle.std.proofs.Common.{to_z}
use Rattle.truth.specs.AExpr.{AExpr}
use Rattle.truth.specs.Comparison.{Comparison, Eq, NotEq, Lt, LtEq, Gt, GtEq}
use Rattle.constraints.specs.Column.{Constraint}
use Rattle.constraints.specs.Lined.{lined}
use Rattle.constraints.specs.LineKept.{Limit, LowerBound, UpperBound, ExcludedValue, OneOf, held_as, given_as}
use Rattle.constraints.specs.LineKept.{all_given_as, FirstIn}
use Rattle.constraints.specs.Scalars.{Scalars}
use Rattle.merge.specs.Classify.{Conjunct, Bounds, Normalized, Equality, Recorded, NonNullPair, Opaque}
use Rattle.merge.specs.Classify.{read_conjuncts}
use Rattle.merge.specs.Collect.{begin, collect}
use Rattle.merge.specs.Emit.{merge_filter_constraints}
use Rattle.merge.specs.Lines.{lines_from}
use Rattle.merge.specs.Passes.{equalities}
use Rattle.merge.specs.Reasons.{ReasonValue, Whole, Reason, as_number, reasons_of}

-- Two columns that equalities join: the least equivalence that holds between the columns of each of them.
pub data Joined (es : List (ℕ × ℕ × ℕ)) : ℕ → ℕ → Type 0 where
  itself : (c : ℕ) → Joined es c c
  equal : (a b n : ℕ) → OneOf (a, b, n) es → Joined es a b
  back : (a b : ℕ) → Joined es a b → Joined es b a
  on : (a b c : ℕ) → Joined es a b → Joined es b c → Joined es a c

-- The column and the constraints of a conjunct that is written anew.
abbrev pub bounds_of : {Val : Type 0} → Conjunct Val → Option (ℕ × List (Constraint Val))
bounds_of (Bounds c l) = some (c, l)
bounds_of (Normalized c l) = some (c, l)
bounds_of (Equality a b n) = none
bounds_of (Recorded stops n c l) = none
bounds_of (NonNullPair n a b) = none
bounds_of (Opaque n) = none

-- Conjunct number `line` of l gives a column joined to c the number that is shown as this limit.
pub record GivenBy (l : List (Conjunct ℕ)) (c : ℕ) (limit : Limit) (shown : ReasonValue) (line : ℕ) : Type 0 where
  pub conjunct : Conjunct ℕ
  pub numbered : get_elem? l line ≡ some conjunct
  pub column : ℕ
  pub constraints : List (Constraint ℕ)
  pub bounds : bounds_of conjunct ≡ some (column, constraints)
  pub joined : Joined (equalities l) column c
  pub constraint : Constraint ℕ
  pub among : OneOf constraint constraints
  pub value : ℕ
  pub gives : OneOf value (given_as constraint limit)
  pub number : Whole (to_z w64 value) ≡ shown

-- An equality is of two bounds and names the lower one.
abbrev pub limit_of : Comparison → Limit
limit_of Eq = LowerBound
limit_of NotEq = ExcludedValue
limit_of Lt = UpperBound
limit_of LtEq = UpperBound
limit_of Gt = LowerBound
limit_of GtEq = LowerBound

-- Each reason of a screen without symbols, whatever its records.
abbrev pub ReasonsGiven : Type 0
ReasonsGiven =
    (R : ℕ → AExpr ℕ) (root : ℕ) (r : Reason) →
    let l = read_conjuncts R root in
    OneOf r (reasons_of as_number (merge_filter_constraints lined (lines_from 0 l))) →
    GivenBy l r.column (limit_of r.operator) r.value r.line

-- ---- The values that conjuncts give column c as a limit, in their order.
abbrev pub conjunct_given_as : {Val : Type 0} → Conjunct Val → ℕ → Limit → List Val
conjunct_given_as (Bounds d l) c k = cond (eqb d c) (all_given_as l k) []
conjunct_given_as (Normalized d l) c k = cond (eqb d c) (all_given_as l k) []
conjunct_given_as (Equality a b n) c k = []
conjunct_given_as (Recorded stops n d l) c k = cond (eqb d c) (all_given_as l k) []
conjunct_given_as (NonNullPair n a b) c k = []
conjunct_given_as (Opaque n) c k = []

abbrev pub column_given_as : {Val : Type 0} → List (Conjunct Val) → ℕ → Limit → List Val
column_given_as [] c k = []
column_given_as (x ∷ l) c k = conjunct_given_as x c k ++ column_given_as l c k

-- "the number of the conjunct that first gave the value it holds": when the conjuncts were read, each limit of a column
-- is the first of its key that they give the column. (Along the equalities it is the other column's, `PassingKeeps`.)
abbrev pub FirstGave : {K Val : Type 0} → Scalars K Val → Type 0
FirstGave {Val = Val} S =
    (l : List (Conjunct Val)) (c : ℕ) (k : Limit) (v : Val) → OneOf v (held_as ((collect S l begin).constraints c) k) →
    FirstIn S v (column_given_as l c k)
