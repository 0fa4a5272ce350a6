-- One side of a column's range: `tighten` and `check_bound_consistency`. Stated for lower bounds; an upper bound is a
-- lower bound of the opposite order.
use Rattle.std.specs.Prelude.{Bool, true, false, not, ◌&&◌, cond, List, [], ◌∷◌}
use Rattle.truth.specs.Order.{above}
use Rattle.std.specs.declared.cmp.Ordering.{Ordering}
use Rattle.std.specs.declared.cmp.Ordering.TheVariants.{Less, Equal, Greater}
use Rattle.constraints.specs.declared.column.BoundChange.{BoundChange}
use Rattle.constraints.specs.declared.column.BoundChange.TheVariants.{NewValue, NewlyOpen, NoChange}
use Rattle.constraints.specs.Scalars.{Scalars, opposite, scalar_cmp}

-- Absent, or at a value: inclusive (`>=`, `<=`) or not (`>`, `<`).
pub data Bound (Val : Type 0) : Type 0 where
  absent : Bound Val
  at : Bool → Val → Bound Val

abbrev pub is_absent : {Val : Type 0} → Bound Val → Bool
is_absent absent = true
is_absent (at inclusive v) = false

-- What is said of a bound, if there is one.
abbrev pub of_bound : {A Val : Type 0} → (Bool → Val → A) → Bound Val → List A
of_bound says absent = []
of_bound says (at inclusive v) = says inclusive v ∷ []

-- A bound, and what became of it: a new value (also where there was none), the same value newly open, or nothing.
pub record Tightened (Val : Type 0) : Type 0 where
  pub bound : Bound Val
  pub change : BoundChange

abbrev pub tightened : {Val : Type 0} → Bound Val → BoundChange → Tightened Val
tightened b change = record { bound = b; change = change }

-- At an equal value: a closed bound is opened by an open one.
abbrev pub opened_by : Bool → Bool → BoundChange
opened_by held_inclusive inclusive = cond (held_inclusive && not inclusive) NewlyOpen NoChange

-- By how the new value compares with the held one: a tighter value replaces; an equal one leaves the held value,
-- inclusive only if both are; else nothing changes.
abbrev pub tighten_by : {Val : Type 0} → Ordering → Bool → Val → Bool → Val → Tightened Val
tighten_by Greater held_inclusive held inclusive v = tightened (at inclusive v) NewValue
tighten_by Equal held_inclusive held inclusive v =
    tightened (at (inclusive && held_inclusive) held) (opened_by held_inclusive inclusive)
tighten_by Less held_inclusive held inclusive v = tightened (at held_inclusive held) NoChange

-- Both kinds of move are a change.
abbrev pub is_change : BoundChange → Bool
is_change NewValue = true
is_change NewlyOpen = true
is_change NoChange = false

-- Whether a lower and an upper bound leave nothing between them, by how the lower compares with the upper.
abbrev pub crosses_by : Ordering → Bool → Bool → Bool
crosses_by Less lower_inclusive upper_inclusive = false
crosses_by Equal lower_inclusive upper_inclusive = not (lower_inclusive && upper_inclusive)
crosses_by Greater lower_inclusive upper_inclusive = true

module _ {K Val : Type 0} (S : Scalars K Val) where
  -- `tighten`: the tighter of the bound held and the new one, and what became of the held one.
  abbrev pub tighten : Bound Val → Bool → Val → Tightened Val
  tighten absent inclusive v = tightened (at inclusive v) NewValue
  tighten (at held_inclusive held) inclusive v = tighten_by (scalar_cmp S v held) held_inclusive held inclusive v

  -- `check_bound_consistency`: the lower bound is above the upper, or equal to it with either side open.
  abbrev pub crosses : Bound Val → Bound Val → Bool
  crosses absent upper = false
  crosses (at lower_inclusive v) absent = false
  crosses (at lower_inclusive v) (at upper_inclusive w) = crosses_by (scalar_cmp S v w) lower_inclusive upper_inclusive

  -- Whether the key k is on the right side of a lower bound.
  abbrev pub clears : Bound Val → K → Bool
  clears absent k = true
  clears (at inclusive v) k = above inclusive (S.order.cmp (S.key v) k)
