-- The half part read, and what a row that 18 does not refuse has of each column.
-- Assumes nothing.
use mathlib.Core.Path.{◌≡◌, sym, ◌∙◌, ap}
use mathlib.Core.Bool.{Bool, true, false, cond, ◌&&◌, true≢false}
use mathlib.Core.List.{List}
use mathlib.Core.Option.{some}
use mathlib.Core.Logic.{⊎_elim}
use Prim.Native.Nat.{ℕ, ◌+◌, ◌*◌, ◌<◌, ◌≤◌, ◌^◌}
use native.Mathlib.Omega.{arith}
use lib.Dec.{eqb, ltb}
use lib.IntN.{ℤ, ◌+ℤ◌}
use lib.ListN.{length, get_or-eq_default}
use mir.Syntax.{w64}
use mir.Val.{to_z}
use borrow.Author.Tests.{eqb-true, ne_eqb}
use Rattle.records.specs.Bytes.{word, value_at, all}
use Rattle.records.proofs.Laws.{and_left, and_right}
use Rattle.records.proofs.Loops.{all_holds}
use Rattle.truth.specs.Halves.{key}
use Rattle.truth.specs.FromBytes.{null_marked}
use Rattle.truth.proofs.Keys.{lt-or_le}
use Rattle.places.specs.declared.place.Half.{Half}
use Rattle.places.specs.declared.place.Half.TheVariants.{Minus, Zero, Plus}
use Rattle.std.specs.declared.option.Option.TheVariants as place
use Rattle.places.specs.Places.{whole_at, half_at, places_row, is_half, place_ok, places_ok}
use Rattle.places.specs.Held.{half_in, place_in, Halved}

-- ---- The half part, by its bits.
pub half_zero : (bits : ℕ) → bits ≡ 0 → is_half bits ≡ true → half_in Zero ≡ to_z w64 bits
half_zero bits e h = sym (ap (to_z w64) e)

pub half_plus : (bits : ℕ) → bits ≡ 1 → is_half bits ≡ true → half_in Plus ≡ to_z w64 bits
half_plus bits e h = sym (ap (to_z w64) e)

pub half_minus : (bits : ℕ) → (bits ≡ 0 → ⊥) → (bits ≡ 1 → ⊥) → is_half bits ≡ true → half_in Minus ≡ to_z w64 bits
half_minus bits a b h =
    sym (ap (to_z w64) (eqb-true bits 18446744073709551615 (sym (rw (ne_eqb bits 0 a, ne_eqb bits 1 b)) ∙ h)))

-- A place that was read.
pub known-place : (row : List ℕ) (nulls c w h : ℕ) (half : Half) (b : Bool) → b ≡ null_marked nulls c → b ≡ false
    → w ≡ whole_at row c → h ≡ half_at row c → Halved row nulls → (is_half h ≡ true → half_in half ≡ to_z w64 h)
    → place_in (place.Some (record { 0 = w }, half)) ≡ places_row row nulls c
unfolding places_row
known-place row nulls c w h half b m e p q fit f =
    let k : null_marked nulls c ≡ false = sym m ∙ e in
    let g : is_half h ≡ true = ap is_half q ∙ fit c k in
    ap (λ z. some (key w +ℤ z)) (f g) ∙ rw (k, p, q)

-- ---- Past its end a row reads as zero.
past_word : (row : List ℕ) (at : ℕ) → length row ≤ at → word row at ≡ 0
unfolding word
past_word row at h =
    rw (
      get_or-eq_default row 0 {n = at} h,
      get_or-eq_default row 0 {n = at + 1} (omega arith),
      get_or-eq_default row 0 {n = at + 2} (omega arith),
      get_or-eq_default row 0 {n = at + 3} (omega arith),
    )

past : (row : List ℕ) (k : ℕ) → length row ≤ 8 * k → value_at row k ≡ 0
unfolding value_at
past row k h = rw (past_word row (8 * k) h, past_word row (8 * k + 4) (omega arith))

-- A row that is not refused has no other half part in any column: behind the last it reads as zero.
pub all_halved : (columns : ℕ) (row : List ℕ) (nulls : ℕ) → places_ok columns row nulls ≡ true → Halved row nulls
unfolding places_ok place_ok
all_halved columns row nulls ok c marked =
    ⊎_elim
    (λ (l : c < columns). at-column (null_marked nulls c) (whole_at row c) (half_at row c) marked
    (all_holds each c columns l
    (and_right (ltb nulls (2 ^ columns)) (all each columns)
    (and_right (eqb (length row) (16 * columns)) (ltb nulls (2 ^ columns) && all each columns) ok))))
    (λ (l : columns ≤ c). ap is_half (past row (2 * c + 1) (omega (arith, size))))
    (lt-or_le c columns)
  where
    each : ℕ → Bool
    each i = place_ok (null_marked nulls i) (whole_at row i) (half_at row i)

    size : length row ≡ 16 * columns
    size =
        eqb-true (length row) (16 * columns)
        (and_left (eqb (length row) (16 * columns)) (ltb nulls (2 ^ columns) && all each columns) ok)

    at-column : (b : Bool) (w h : ℕ) → b ≡ false → cond b (eqb w 0 && eqb h 0) (is_half h) ≡ true → is_half h ≡ true
    at-column true w h e k = absurd (true≢false e)
    at-column false w h e k = k
