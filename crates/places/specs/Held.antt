-- What the code holds of a place: the half part is one of three, so that no place in code has another.
use Rattle.std.specs.Prelude.{◌≡◌, Bool, false, true, cond, List, ℕ, ◌+◌, eqb, ℤ, pos, negsuc, ◌+ℤ◌}
use Rattle.std.proofs.Math.Option.{Option, none, some}
use Rattle.truth.specs.Halves.{key}
use Rattle.truth.specs.FromBytes.{null_marked}
use Rattle.std.specs.declared.cmp.Ordering.{Ordering}
use Rattle.std.specs.declared.cmp.Ordering.TheVariants.{Less, Equal, Greater}
use Rattle.places.specs.declared.place.Half.{Half}
use Rattle.places.specs.declared.place.Half.TheVariants.{Minus, Zero, Plus}
use Rattle.std.specs.declared.option.Option as lang
use Rattle.std.specs.declared.option.Option.TheVariants as place
use Rattle.truth.specs.declared.scalar.Scalar.{Scalar}
use Rattle.places.specs.Places.{half_at, is_half}

abbrev pub half_in : Half → ℤ
half_in Minus = negsuc 0
half_in Zero = pos 0
half_in Plus = pos 1

-- The key of a whole part beside a half part.
abbrev pub key_in : ℕ → Half → ℤ
key_in whole half = key whole +ℤ half_in half

abbrev pub place_in : lang.Option (Scalar × Half) → Option ℤ
place_in place.None = none
place_in (place.Some (whole, half)) = some (key_in whole.0 half)

-- Each column that is not null has a half part of -1, 0 or +1.
abbrev pub Halved : List ℕ → ℕ → Type 0
Halved row nulls = (c : ℕ) → null_marked nulls c ≡ false → is_half (half_at row c) ≡ true

-- The half part against 0.
abbrev pub half_order : Half → Ordering
half_order Minus = Less
half_order Zero = Equal
half_order Plus = Greater

-- Whether v is the whole number after w; the largest has none.
unfoldable pub is_next : ℕ → ℕ → Bool
is_next w v = cond (eqb w 9223372036854775807) false (cond (eqb w 18446744073709551615) (eqb v 0) (eqb v (w + 1)))

-- Whether two places have one value, by their parts.
abbrev pub same_parts : ℕ → Half → ℕ → Half → Bool
same_parts w Minus v Minus = eqb w v
same_parts w Minus v Zero = false
same_parts w Minus v Plus = is_next v w
same_parts w Zero v Minus = false
same_parts w Zero v Zero = eqb w v
same_parts w Zero v Plus = false
same_parts w Plus v Minus = is_next w v
same_parts w Plus v Zero = false
same_parts w Plus v Plus = eqb w v
