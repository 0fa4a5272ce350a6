-- Columns that equalities make equal, under one label; the conjuncts told to a table under the labels of their columns.
use Rattle.std.specs.Prelude.{◌≡◌, Bool, true, false, cond, ◌||◌, List, [], ◌∷◌, map, ℕ, ◌<◌, ◌≤◌, ◌%◌, eqb, ℤ, length, get_or}
use Rattle.std.proofs.Math.Option.{Option}
use Rattle.truth.specs.AExpr.{AExpr}
use Rattle.constraints.specs.Column.{empty}
use Rattle.constraints.specs.Lined.{Lined, lined}
use Rattle.constraints.specs.Scalars.{Scalars}
use Rattle.column_constraints.specs.Abstraction.{Conjuncts, Fine}
use Rattle.column_constraints.specs.declared.column.ColumnConstraints.{ColumnConstraints}
use Rattle.merge.specs.Classify.{Conjunct, Bounds, Normalized, Equality, Recorded, NonNullPair, Opaque, classify}
use Rattle.merge.specs.Collect.{Table, Collected, add_to, require_non_null}
use Rattle.merge.specs.Emit.{any_unsat, resolved}
use Rattle.merge.specs.Lines.{lines_from}
use Rattle.read_operands.specs.Walk.{first_of}
use Rattle.column_table.specs.Rows.{stride, row_of}
use Rattle.column_table.specs.Words.{past_column}
use Rattle.column_table.specs.State.{ColumnTable, Shows}

-- The first n lines of an array, as the merging reads them.
unfoldable pub lines_to : (ℕ → AExpr ℕ) → List ℕ → ℕ → List (Conjunct Lined)
lines_to R nodes n = lines_from 0 (map (classify R) (first_of nodes n))

-- The label `from` becomes `to`, another stays.
abbrev pub renamed : ℕ → ℕ → ℕ → ℕ
renamed from to x = cond (eqb x from) to x

-- The label of column c, which has one of 64 places.
abbrev pub label_at : List ℕ → ℕ → ℕ
label_at labels c = get_or labels (c % 64) 0

-- What a conjunct does to the labels: those of an equality's columns become one.
abbrev pub Joins : {Val : Type 0} → Conjunct Val → List ℕ → List ℕ → Type 0
Joins (Bounds c l) old new = new ≡ old
Joins (Normalized c l) old new = new ≡ old
Joins (Equality a b n) old new =
    (length new ≡ length old)
    × ((c : ℕ) → c < 64 → get_or new c 0 ≡ renamed (label_at old a) (label_at old b) (get_or old c 0))
Joins (Recorded stops n c l) old new = new ≡ old
Joins (NonNullPair n a b) old new = new ≡ old
Joins (Opaque n) old new = new ≡ old

-- An equality's columns have one label, or one value.
abbrev pub OneAt : {Val A : Type 0} → (ℕ → A) → Conjunct Val → Type 0
OneAt f (Bounds c l) = Unit {0}
OneAt f (Normalized c l) = Unit {0}
OneAt f (Equality a b n) = f a ≡ f b
OneAt f (Recorded stops n c l) = Unit {0}
OneAt f (NonNullPair n a b) = Unit {0}
OneAt f (Opaque n) = Unit {0}

abbrev pub AllAtOne : {Val A : Type 0} → (ℕ → A) → List (Conjunct Val) → Type 0
AllAtOne f [] = Unit {0}
AllAtOne f (x ∷ l) = OneAt f x × AllAtOne f l

-- A label is a column; the columns of an equality have the same; a column has the value of its label's column in every row in
-- which the columns of each equality have one value.
pub record Labels (l : List (Conjunct Lined)) (labels : List ℕ) : Type 0 where
  pub size : length labels ≡ 64
  pub low : (c : ℕ) → c < 64 → get_or labels c 0 < 64
  pub one : AllAtOne (label_at labels) l
  pub same : (row : ℕ → Option ℤ) → AllAtOne row l → (c : ℕ) → c < 64 → row (get_or labels c 0) ≡ row c

module _ {K Val : Type 0} (S : Scalars K Val) where
  -- A conjunct told to the table, each column by its label. Of an equality only that its columns are not null is left to tell.
  abbrev pub tell_one : (ℕ → ℕ) → Conjunct Val → Table Val → Table Val
  tell_one f (Bounds c l) t = add_to S (f c) l t
  tell_one f (Normalized c l) t = add_to S (f c) l t
  tell_one f (Equality a b n) t = require_non_null S (f b) (require_non_null S (f a) t)
  tell_one f (Recorded stops n c l) t = add_to S (f c) l t
  tell_one f (NonNullPair n a b) t = require_non_null S (f b) (require_non_null S (f a) t)
  tell_one f (Opaque n) t = t

  abbrev pub tell_all : (ℕ → ℕ) → List (Conjunct Val) → Table Val → Table Val
  tell_all f [] t = t
  tell_all f (x ∷ l) t = tell_all f l (tell_one f x t)

  -- All of them, to a table of empty columns.
  unfoldable pub told : (ℕ → ℕ) → List (Conjunct Val) → Table Val
  told f l = tell_all f l (λ c. empty)

-- The arrays stand for the table T, one of whose columns is impossible if `stops`.
pub record Tells (t : Conjuncts) (table : List ColumnConstraints) (marks : List ℕ) (stops : Bool) (T : ColumnTable) : Type 0 where
  pub shows : Shows t table marks T
  pub dead : stops ≡ true → (c : ℕ) × ((T c).unsat ≡ true)

-- What the first i lines told, by their columns' labels.
abbrev pub told_to : List ℕ → (ℕ → AExpr ℕ) → List ℕ → ℕ → ColumnTable
told_to labels R nodes i = told lined (label_at labels) (lines_to R nodes i)

-- Where telling stopped, some of the n lines made a column impossible; else the arrays stand for what all told.
pub record ToldLines (t : Conjuncts) (table : List ColumnConstraints) (marks labels : List ℕ) (R : ℕ → AExpr ℕ)
    (nodes : List ℕ) (n : ℕ) (stops : Bool) : Type 0 where
  pub stopped : stops ≡ true → (i : ℕ) × (i ≤ n) × ((c : ℕ) × ((told_to labels R nodes i c).unsat ≡ true))
  pub shows : stops ≡ false → Shows t table marks (told_to labels R nodes n)
  pub fine : (a : ℕ) → a < 64 → Fine (stride marks) (row_of marks a) (get_or table a past_column).len

-- What was collected lets nothing pass: a line made a column impossible, or one is when all is carried and resolved.
abbrev pub dead : {K Val : Type 0} → Scalars K Val → Collected Val → Bool
dead S s = s.unsat || any_unsat s.order (resolved S s)
