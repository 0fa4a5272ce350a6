-- Divisions by keys.
use Rattle.std.specs.Prelude.{◌≡◌, ℕ, Bool, false, ◌&&◌, ◌||◌, ℤ, ◌==◌}
use Rattle.std.proofs.Math.Option.{Option}
use Rattle.truth.specs.Evaluate.{divided_of}
use Rattle.masks.specs.Masks.{KeyAt}

-- The values with the keys p and q have no quotient: the second is 0, or it is -1 and the first the least number.
unfoldable pub has_none : ℕ → ℕ → Bool
has_none p q = q == 9223372036854775808 || (p == 0 && q == 9223372036854775807)

-- If they have one, r is its key, or that of the remainder.
unfoldable pub IsPart : ℕ → ℕ → ℕ → ℕ → Type 0
IsPart code p q r =
    has_none p q ≡ false → (v w : Option ℤ) → KeyAt false p v → KeyAt false q w → KeyAt false r (divided_of code v w)
