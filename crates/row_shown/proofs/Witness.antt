-- The key of a column's place is the witness of the completeness theorem, where the column's bounds do not cross.
use mathlib.Core.Path.{◌≡◌, refl, ◌∙◌, ap}
use mathlib.Core.Bool.{Bool, true, false, not, cond, ◌&&◌, true≢false}
use mathlib.Core.List.{List, [], ◌∷◌}
use mathlib.Core.Option.{Option, none, some}
use Prim.Native.Nat.{ℕ}
use lib.IntN.{ℤ, suc_ℤ, pred_ℤ, +ℤ_idr, +ℤ_one, -ℤ_one}
use Rattle.truth.specs.Halves.{key, cmp_z}
use Rattle.truth.specs.Order.{is_equal}
use Rattle.std.specs.declared.cmp.Ordering.{Ordering}
use Rattle.std.specs.declared.cmp.Ordering.TheVariants.{Less, Equal, Greater}
use Rattle.constraints.specs.Payload as values
use Rattle.constraints.specs.Bound.{Bound, absent, at, crosses, crosses_by}
use Rattle.constraints.specs.Column.{ColumnConstraints}
use Rattle.constraints.specs.Resolve.{is_feasible, fixed_at}
use Rattle.merge.proofs.BoundKeys.{bound_key}
use Rattle.merge.proofs.Demand.{payload, halves}
use Rattle.merge.proofs.Witness.{point, point_by, least, lesser, or_else, witness, witness_by}
use Rattle.merge.proofs.Witness as witnesses
use Rattle.places.specs.Places.{place_key}
use Rattle.row_shown.specs.declared.place.Place.{Place}
use Rattle.row_shown.specs.Shown.{exactly, plus_half, minus_half, lesser_by, smaller, smallest}
use Rattle.row_shown.specs.Shown.{list_place, fixed_place, place_by, value_place}

-- The key of a place.
abbrev pub key_of : Place → ℤ
key_of p = place_key p.whole p.half

-- ---- Half parts.
key-exactly : (v : ℕ) → key_of (exactly v) ≡ key v
key-exactly v = +ℤ_idr (key v)

key-plus : (v : ℕ) → key_of (plus_half v) ≡ suc_ℤ (key v)
key-plus v = +ℤ_one (key v)

key-minus : (v : ℕ) → key_of (minus_half v) ≡ pred_ℤ (key v)
key-minus v = -ℤ_one (key v)

-- ---- The smallest value of a list has its least key.
abbrev keys : Option ℕ → Option ℤ
keys none = none
keys (some v) = some (key v)

smaller-key : (b : Bool) (v : ℕ) (o : Option ℕ) → keys (smaller b v o) ≡ lesser payload halves b (key v) (keys o)
unfolding values.payload
smaller-key false v o = refl
smaller-key true v none = refl
smaller-key true v (some w) = go (cmp_z (key v) (key w))
  where
    go : (o : Ordering) → some (key (lesser_by o v w)) ≡ some (witnesses.lesser_by payload halves o (key v) (key w))
    go Less = refl
    go Equal = refl
    go Greater = refl

smallest-key : (F : ℤ → Bool) (l : List ℕ) → keys (smallest F l) ≡ least payload halves F l
unfolding values.payload
smallest-key F [] = refl
smallest-key F (v ∷ l) =
    smaller-key (F (key v)) v (smallest F l) ∙ ap (lesser payload halves (F (key v)) (key v)) (smallest-key F l)

list-key : (o : Option ℕ) → key_of (list_place o) ≡ or_else payload halves (keys o) halves.nil
unfolding halves
list-key none = refl
list-key (some v) = key-exactly v

-- ---- The bounds.
bounds-key : (l u : Bound ℕ) → crosses payload l u ≡ false
    → key_of (fixed_place (fixed_at payload l u) l u) ≡ point payload halves (bound_key payload l) (bound_key payload u)
unfolding halves
bounds-key absent absent h = refl
bounds-key absent (at j w) h = key-minus w
bounds-key (at true v) absent h = key-plus v
bounds-key (at false v) absent h = key-plus v
bounds-key (at true v) (at j w) h = go (cmp_z (key v) (key w)) j h
  where
    go : (o : Ordering) (j : Bool) → crosses_by o true j ≡ false
        → key_of (fixed_place (cond (j && is_equal o) (some v) none) (at true v) (at j w)) ≡ point_by payload halves o (key v)
    go Less true h = key-plus v
    go Less false h = key-plus v
    go Equal true h = key-exactly v
    go Equal false h = absurd (true≢false h)
    go Greater j h = absurd (true≢false h)
bounds-key (at false v) (at j w) h = go (cmp_z (key v) (key w)) h
  where
    go : (o : Ordering) → crosses_by o false j ≡ false → key_of (plus_half v) ≡ point_by payload halves o (key v)
    go Less h = key-plus v
    go Equal h = absurd (true≢false h)
    go Greater h = absurd (true≢false h)

place-key : (cc : ColumnConstraints ℕ) (o : Option (List ℕ)) → crosses payload cc.lower cc.upper ≡ false
    → key_of (place_by o cc) ≡ witness_by payload halves o cc
unfolding values.payload
place-key cc none h = bounds-key cc.lower cc.upper h
place-key cc (some l) h =
    list-key (smallest (is_feasible payload cc) l)
    ∙ ap (λ o. or_else payload halves o halves.nil) (smallest-key (is_feasible payload cc) l)

pub value-key : (cc : ColumnConstraints ℕ) → crosses payload cc.lower cc.upper ≡ false
    → key_of (value_place cc) ≡ witness payload halves cc
unfolding value_place
value-key cc h = place-key cc cc.allowed h
