-- Places of the paper and at the ends of 64 bits, computed.
use mathlib.Core.Path.{◌≡◌, refl}
use mathlib.Core.Bool.{true, false}
use mathlib.Core.List.{List, [], ◌∷◌, ◌++◌}
use Prim.Native.Nat.{ℕ}
use Rattle.records.specs.Bytes.{word, value_at, all}
use Rattle.truth.specs.Halves.{ord_z, key}
use Rattle.std.specs.declared.cmp.Ordering.TheVariants.{Less, Equal, Greater}
use Rattle.places.specs.Places.{place_key, place_ok, places_ok}

-- (3, +1) and (4, -1) are one value, three and a half.
one_value : ord_z.cmp (place_key 3 1) (place_key 4 18446744073709551615) ≡ Equal
one_value = refl

-- The largest whole part and a half is above every literal, the least one less a half below.
above-all : ord_z.cmp (place_key 9223372036854775807 1) (key 9223372036854775807) ≡ Greater
above-all = refl

below_all : ord_z.cmp (place_key 9223372036854775808 18446744073709551615) (key 9223372036854775808) ≡ Less
below_all = refl

-- They are not one value, though their bits follow each other.
ends_apart : ord_z.cmp (place_key 9223372036854775807 1) (place_key 9223372036854775808 18446744073709551615) ≡ Greater
ends_apart = refl

-- (-1, +1) and (0, -1) are.
around_zero : ord_z.cmp (place_key 18446744073709551615 1) (place_key 0 18446744073709551615) ≡ Equal
around_zero = refl

-- ---- Number 18, of rows for one column.
abbrev eight : ℕ → List ℕ
eight low = low ∷ 0 ∷ 0 ∷ 0 ∷ 0 ∷ 0 ∷ 0 ∷ 0 ∷ []

three-and_a_half : places_ok 1 (eight 3 ++ eight 1) 0 ≡ true
unfolding places_ok place_ok value_at word all
three-and_a_half = refl

two_is_no_half : places_ok 1 (eight 3 ++ eight 2) 0 ≡ false
unfolding places_ok place_ok value_at word all
two_is_no_half = refl

null_with_parts : places_ok 1 (eight 3 ++ eight 1) 1 ≡ false
unfolding places_ok place_ok value_at word all
null_with_parts = refl

mark_at_the_count : places_ok 1 (eight 0 ++ eight 0) 2 ≡ false
unfolding places_ok place_ok value_at word all
mark_at_the_count = refl

another_length : places_ok 1 (eight 3) 0 ≡ false
unfolding places_ok place_ok value_at word all
another_length = refl
