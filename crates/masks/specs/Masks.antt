-- What two words of 64 bits say of 64 rows.
use Rattle.std.specs.Prelude.{◌≡◌, Bool, true, false, cond, List, ℕ, zero, suc, ◌+◌, ◌^◌, ◌<◌, ℤ, get_or}
use Rattle.std.proofs.Math.Option.{Option, none, some}
use Rattle.std.specs.Int.Bits.{bit_or, bit_xor}
use Rattle.checking.specs.Columns.{bit}
use Rattle.three_valued.specs.declared.logic.Truth.{Truth}
use Rattle.three_valued.specs.declared.logic.Truth.TheVariants.{False, Unknown, True}
use Rattle.three_valued.specs.Logic.{is_true}
use Rattle.truth.specs.Halves.{key, bias_of}
use Rattle.masks.specs.declared.Masks.{Masks}

abbrev pub is_unknown : Truth → Bool
is_unknown False = false
is_unknown Unknown = true
is_unknown True = false

-- Every bit of 64 turned.
abbrev pub inverse : ℕ → ℕ
inverse x = bit_xor x 18446744073709551615

-- The word with a bit for each number below n that has the mark.
unfoldable pub mask_to : (ℕ → Bool) → ℕ → ℕ
mask_to marked zero = 0
mask_to marked (suc n) = cond (marked n) (bit_or (mask_to marked n) (2 ^ n)) (mask_to marked n)

-- Bit i of the two words is the truth of row i, for the rows that there are, at most 64.
unfoldable pub Tells : ℕ → Masks → (ℕ → Truth) → Type 0
Tells rows m truth =
    (i : ℕ) → i < 64 → i < rows → (bit m.truths i ≡ is_true (truth i)) × (bit m.unknowns i ≡ is_unknown (truth i))

-- A key and a null mark show a value: null, or 64 bits whose key in order is k.
pub data KeyAt (null : Bool) (k : ℕ) (value : Option ℤ) : Type 0 where
  is_null : null ≡ true → value ≡ none → KeyAt null k value
  is_key : (bits : ℕ) → bits < 2 ^ 64 → null ≡ false → k ≡ bias_of bits → value ≡ some (key bits) → KeyAt null k value

-- Keys, from the one numbered `at` on, and a word of null marks show the values of a column in these rows.
unfoldable pub Shown : ℕ → List ℕ → ℕ → ℕ → (ℕ → Option ℤ) → Type 0
Shown rows keys at nulls value =
    (i : ℕ) → i < 64 → i < rows → KeyAt (bit nulls i) (get_or keys (at + i) 0) (value i)
