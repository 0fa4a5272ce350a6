-- The row that is shown of a plain screen (02, 2.7), place by place, over the resolved columns: those after the
-- equalities and after `resolve_deferred`. A place is a whole part and a half part, as 64 bits each.
use Rattle.std.specs.Prelude.{Bool, true, false, not, cond, ◌||◌, List, [], ◌∷◌, ◌++◌, ℕ, zero, suc, ◌/◌, ◌%◌, ℤ}
use Rattle.std.proofs.Math.Option.{Option, none, some}
use Rattle.std.specs.declared.cmp.Ordering.{Ordering}
use Rattle.std.specs.declared.cmp.Ordering.TheVariants.{Less, Equal, Greater}
use Rattle.constraints.specs.Scalars.{scalar_cmp}
use Rattle.constraints.specs.Payload.{payload}
use Rattle.constraints.specs.Bound.{Bound, absent, at}
use Rattle.constraints.specs.Column.{ColumnConstraints, is_null_required}
use Rattle.constraints.specs.Resolve.{is_feasible, fixed_value}
use Rattle.merge.specs.Collect.{Collected, is_in}
use Rattle.merge.specs.Emit.{resolved}
use Rattle.merge.specs.Write.{word_bytes}
use Rattle.row_shown.specs.declared.place.Place.{Place}

-- "the number named first being the whole part": v itself, v plus a half, v minus a half.
abbrev pub exactly : ℕ → Place
exactly v = record { whole = v; half = 0 }

abbrev pub plus_half : ℕ → Place
plus_half v = record { whole = v; half = 1 }

abbrev pub minus_half : ℕ → Place
minus_half v = record { whole = v; half = 18446744073709551615 }

-- ---- "the smallest possible one of its allowed list"
abbrev pub lesser_by : Ordering → ℕ → ℕ → ℕ
lesser_by Less v w = v
lesser_by Equal v w = v
lesser_by Greater v w = w

-- v beside the smallest of the values behind it; `possible` is whether v counts.
abbrev pub smaller : Bool → ℕ → Option ℕ → Option ℕ
smaller false v o = o
smaller true v none = some v
smaller true v (some w) = some (lesser_by (scalar_cmp payload v w) v w)

abbrev pub smallest : (ℤ → Bool) → List ℕ → Option ℕ
smallest possible [] = none
smallest possible (v ∷ l) = smaller (possible (payload.key v)) v (smallest possible l)

-- Where some row passes there is one.
abbrev pub list_place : Option ℕ → Place
list_place none = plus_half 0
list_place (some v) = exactly v

-- ---- "without a list the fixed value, else the lower bound plus a half, else the upper minus a half, else 0 plus a half"
abbrev pub upper_place : Bound ℕ → Place
upper_place absent = plus_half 0
upper_place (at inclusive v) = minus_half v

abbrev pub lower_place : Bound ℕ → Bound ℕ → Place
lower_place absent upper = upper_place upper
lower_place (at inclusive v) upper = plus_half v

abbrev pub fixed_place : Option ℕ → Bound ℕ → Bound ℕ → Place
fixed_place none lower upper = lower_place lower upper
fixed_place (some v) lower upper = exactly v

abbrev pub place_by : Option (List ℕ) → ColumnConstraints ℕ → Place
place_by none cc = fixed_place (fixed_value payload cc) cc.lower cc.upper
place_by (some values) cc = list_place (smallest (is_feasible payload cc) values)

-- The place of a resolved column that is not null.
unfoldable pub value_place : ColumnConstraints ℕ → Place
value_place cc = place_by cc.allowed cc

-- ---- The row. "A column required null, or not read, is null, both parts zero." A column is read if a conjunct says
-- something of it, and has then entered; `order` has the columns that entered, `table` the resolved columns.
module _ (order : List ℕ) (table : ℕ → ColumnConstraints ℕ) where
  abbrev pub null_in : ℕ → Bool
  null_in c = not (is_in c order) || is_null_required (table c).nullability

  abbrev pub place_in : ℕ → Place
  place_in c = cond (null_in c) (exactly 0) (value_place (table c))

abbrev pub null_shown : Collected ℕ → ℕ → Bool
null_shown s c = null_in s.order (resolved payload s) c

abbrev pub place_shown : Collected ℕ → ℕ → Place
place_shown s c = place_in s.order (resolved payload s) c

-- ---- The bytes of the row, place after place, each part eight bytes, the lowest first.
abbrev pub value_bytes : ℕ → List ℕ
value_bytes x = word_bytes (x % 4294967296) ++ word_bytes (x / 4294967296)

abbrev pub place_bytes : Place → List ℕ
place_bytes p = value_bytes p.whole ++ value_bytes p.half

unfoldable pub places_bytes : (ℕ → Place) → ℕ → List ℕ
places_bytes place zero = []
places_bytes place (suc n) = places_bytes place n ++ place_bytes (place n)
