-- How the code adds (02, 2.4): by words of eight bytes, the lowest byte first. `by-words` in proofs/Words.antt says that the
-- checksum comes out.
use Rattle.std.specs.Prelude.{ℕ, zero, suc, ◌+◌, ◌*◌, ◌/◌, ◌%◌, List}
use Rattle.records.specs.Bytes.{value_at}

-- the two halves of a word, 32 bits each
abbrev pub halves : ℕ → ℕ
halves w = w % 4294967296 + w / 4294967296

-- the sum of the halves of the first n words of l
unfoldable pub word_sum : List ℕ → ℕ → ℕ
word_sum l zero = 0
word_sum l (suc n) = word_sum l n + halves (value_at l n)

-- what is above the lowest sixteen bits, added to them
abbrev pub fold : ℕ → ℕ
fold n = n % 65536 + n / 65536

-- the two bytes of a number of sixteen bits, swapped
abbrev pub swap_bytes : ℕ → ℕ
swap_bytes n = 256 * (n % 256) + n / 256
