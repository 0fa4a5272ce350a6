-- `ColumnConstraints`: what an And chain says of one column, with the methods of the Rust. Each method is one
-- `Constraint` taken in; an impossible column takes nothing more, which stands once, in `add`. `strict` is the
-- documented difference: only a negated is_in without nulls_equal counts as a value constraint.
use Rattle.std.specs.Prelude.{Bool, true, false, not, ◌&&◌, ◌||◌, cond, List, [], ◌∷◌, ◌++◌, map}
use Rattle.std.proofs.Math.Option.{Option, none, some}
use Rattle.constraints.specs.declared.column.BoundChange.{BoundChange}
use Rattle.constraints.specs.declared.column.BoundChange.TheVariants.{NoChange}
use Rattle.constraints.specs.declared.column.Nullability.{Nullability}
use Rattle.constraints.specs.declared.column.Nullability.TheVariants.{Unconstrained, Null, NonNull}
use Rattle.constraints.specs.Scalars.{Scalars, opposite}
use Rattle.constraints.specs.Bound.{Bound, absent, of_bound, is_change, tighten, crosses}
use Rattle.constraints.specs.Values.{is_empty, contains, insert, extend, retain, subset}

pub record ColumnConstraints (Val : Type 0) : Type 0 where
  pub lower : Bound Val
  pub upper : Bound Val
  -- The `!= x` values, resolved against the bounds in `resolve_deferred`.
  pub excluded : List Val
  -- The common values of all is_in lists; none: no list was read.
  pub allowed : Option (List Val)
  -- All values of the negated is_in lists; never written out.
  pub disallowed : List Val
  -- Some negated is_in without nulls_equal gave a value.
  pub strict : Bool
  pub nullability : Nullability
  -- No value is left. It stays so.
  pub unsat : Bool

-- What a conjunct can say of a column, one for each `add_*` method and `require_nullability`.
pub data Constraint (Val : Type 0) : Type 0 where
  -- inclusive, value
  Lower : Bool → Val → Constraint Val
  Upper : Bool → Val → Constraint Val
  Exclude : Val → Constraint Val
  Allow : List Val → Constraint Val
  -- whether it counts as a value constraint; the values
  Disallow : Bool → List Val → Constraint Val
  Require : Nullability → Constraint Val

abbrev pub is_none : {A : Type 0} → Option A → Bool
is_none none = true
is_none (some a) = false

-- A column of these parts, in the record's order.
abbrev pub column :
    {Val : Type 0} → Bound Val → Bound Val → List Val → Option (List Val) → List Val → Bool → Nullability → Bool →
    ColumnConstraints Val
column l u e a d s n x =
    record { lower = l; upper = u; excluded = e; allowed = a; disallowed = d; strict = s; nullability = n; unsat = x }

-- The column of which nothing is known.
abbrev pub empty : {Val : Type 0} → ColumnConstraints Val
empty = column absent absent [] none [] false Unconstrained false

-- ---- A column with one thing set anew.
abbrev pub set_lower : {Val : Type 0} → Bound Val → ColumnConstraints Val → ColumnConstraints Val
set_lower b cc = column b cc.upper cc.excluded cc.allowed cc.disallowed cc.strict cc.nullability cc.unsat

abbrev pub set_upper : {Val : Type 0} → Bound Val → ColumnConstraints Val → ColumnConstraints Val
set_upper b cc = column cc.lower b cc.excluded cc.allowed cc.disallowed cc.strict cc.nullability cc.unsat

abbrev pub set_unsat : {Val : Type 0} → Bool → ColumnConstraints Val → ColumnConstraints Val
set_unsat b cc = column cc.lower cc.upper cc.excluded cc.allowed cc.disallowed cc.strict cc.nullability b

-- Of two null requirements the first is kept.
abbrev pub first_required : Nullability → Nullability → Nullability
first_required Unconstrained n = n
first_required Null n = Null
first_required NonNull n = NonNull

-- Whether is_null is required.
abbrev pub is_null_required : Nullability → Bool
is_null_required Unconstrained = false
is_null_required Null = true
is_null_required NonNull = false

-- Whether they are opposite.
abbrev pub opposed : Nullability → Nullability → Bool
opposed Unconstrained n = false
opposed Null Unconstrained = false
opposed Null Null = false
opposed Null NonNull = true
opposed NonNull n = is_null_required n

module _ {K Val : Type 0} (S : Scalars K Val) where
  -- A second allowed list keeps the common values.
  abbrev pub common : Option (List Val) → List Val → List Val
  common none l = l
  common (some held) l = retain S l held

  -- `check_bound_consistency`, of a column that was possible.
  abbrev pub check_bound_consistency : ColumnConstraints Val → ColumnConstraints Val
  check_bound_consistency cc = set_unsat (crosses S cc.lower cc.upper) cc

  -- A column that is not impossible takes a constraint in.
  abbrev pub put : Constraint Val → ColumnConstraints Val → ColumnConstraints Val
  put (Lower inclusive v) cc = check_bound_consistency (set_lower (tighten S cc.lower inclusive v).bound cc)
  put (Upper inclusive v) cc = check_bound_consistency (set_upper (tighten (opposite S) cc.upper inclusive v).bound cc)
  put (Exclude v) cc =
      column cc.lower cc.upper (insert S v cc.excluded) cc.allowed cc.disallowed cc.strict cc.nullability cc.unsat
  put (Allow values) cc =
      column cc.lower cc.upper cc.excluded (some (common cc.allowed values))
      cc.disallowed cc.strict cc.nullability cc.unsat
  put (Disallow counts values) cc =
      column cc.lower cc.upper cc.excluded cc.allowed (extend S cc.disallowed values)
      (cc.strict || counts && not (is_empty values)) cc.nullability cc.unsat
  put (Require required) cc =
      column cc.lower cc.upper cc.excluded cc.allowed cc.disallowed cc.strict (first_required cc.nullability required)
      (opposed cc.nullability required)

  -- An impossible column takes nothing more.
  abbrev pub add : Constraint Val → ColumnConstraints Val → ColumnConstraints Val
  add c cc = cond cc.unsat cc (put c cc)

  -- The methods, by the Rust's names.
  abbrev pub add_lower : Val → Bool → ColumnConstraints Val → ColumnConstraints Val
  add_lower v inclusive cc = add (Lower inclusive v) cc

  abbrev pub add_upper : Val → Bool → ColumnConstraints Val → ColumnConstraints Val
  add_upper v inclusive cc = add (Upper inclusive v) cc

  abbrev pub add_excluded : Val → ColumnConstraints Val → ColumnConstraints Val
  add_excluded v cc = add (Exclude v) cc

  abbrev pub add_allowed : List Val → ColumnConstraints Val → ColumnConstraints Val
  add_allowed values cc = add (Allow values) cc

  abbrev pub add_disallowed : Bool → List Val → ColumnConstraints Val → ColumnConstraints Val
  add_disallowed counts values cc = add (Disallow counts values) cc

  abbrev pub require_nullability : Nullability → ColumnConstraints Val → ColumnConstraints Val
  require_nullability required cc = add (Require required) cc

  abbrev pub add_all : List (Constraint Val) → ColumnConstraints Val → ColumnConstraints Val
  add_all [] cc = cc
  add_all (c ∷ l) cc = add_all l (add c cc)

  -- ---- What the methods return: whether the column changed.
  abbrev pub allowed_changes : Option (List Val) → List Val → Bool
  allowed_changes none values = true
  allowed_changes (some held) values = not (subset S held values)

  -- What became of the bound; both kinds of move count. An impossible column's does not move.
  abbrev pub lower_change : Val → Bool → ColumnConstraints Val → BoundChange
  lower_change v inclusive cc = cond cc.unsat NoChange (tighten S cc.lower inclusive v).change

  abbrev pub upper_change : Val → Bool → ColumnConstraints Val → BoundChange
  upper_change v inclusive cc = cond cc.unsat NoChange (tighten (opposite S) cc.upper inclusive v).change

  -- `require_nullability` returns nothing, and a merge passes no list that counts: their answers are never asked for.
  abbrev pub changes : Constraint Val → ColumnConstraints Val → Bool
  changes (Lower inclusive v) cc = is_change (tighten S cc.lower inclusive v).change
  changes (Upper inclusive v) cc = is_change (tighten (opposite S) cc.upper inclusive v).change
  changes (Exclude v) cc = not (contains S (S.key v) cc.excluded)
  changes (Allow values) cc = allowed_changes cc.allowed values
  changes (Disallow true values) cc = true
  changes (Disallow false values) cc = not (subset S values cc.disallowed)
  changes (Require required) cc = true

  abbrev pub changes_all : List (Constraint Val) → ColumnConstraints Val → Bool
  changes_all [] cc = false
  changes_all (c ∷ l) cc = (not cc.unsat && changes c cc) || changes_all l (add c cc)

-- ---- `merge_from`: one column's constraints as a list, in the Rust's order: lower, upper, excluded, allowed,
-- disallowed.
abbrev pub allowed_of : {Val : Type 0} → Option (List Val) → List (Constraint Val)
allowed_of none = []
allowed_of (some values) = Allow values ∷ []

-- Those that are written out again: bounds and excluded values.
abbrev pub emitted : {Val : Type 0} → ColumnConstraints Val → List (Constraint Val)
emitted cc = of_bound Lower cc.lower ++ (of_bound Upper cc.upper ++ map Exclude cc.excluded)

-- Those that only detect contradictions. The columns of an equality are not null, so what is merged need not count.
abbrev pub recorded : {Val : Type 0} → ColumnConstraints Val → List (Constraint Val)
recorded cc = allowed_of cc.allowed ++ (Disallow false cc.disallowed ∷ [])

module _ {K Val : Type 0} (S : Scalars K Val) where
  -- `merge_from`: the column takes in all that the other says.
  abbrev pub merge_from : ColumnConstraints Val → ColumnConstraints Val → ColumnConstraints Val
  merge_from cc other = add_all S (recorded other) (add_all S (emitted other) cc)

  -- Its two flags: something that is written out changed; anything changed.
  abbrev pub merge_emitted : ColumnConstraints Val → ColumnConstraints Val → Bool
  merge_emitted cc other = changes_all S (emitted other) cc

  abbrev pub merge_any : ColumnConstraints Val → ColumnConstraints Val → Bool
  merge_any cc other = changes_all S (emitted other) cc || changes_all S (recorded other) (add_all S (emitted other) cc)
