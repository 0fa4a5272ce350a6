-- The keys of truths.
use Rattle.std.specs.Prelude.{◌≡◌, List, ℕ, ◌+◌, ◌<◌, eqb, get_or}
use Rattle.std.specs.Int.Bits.{bit_or}
use Rattle.masks.specs.Masks.{mask_to}

-- Each of 64 keys, from the one numbered `at` on, is that of 1 or that of 0: the words have the bits of the ones and of the zeros.
pub record Truths (keys : List ℕ) (at ones zeros : ℕ) : Type 0 where
  pub one : ones ≡ mask_to (λ (i : ℕ). eqb (get_or keys (at + i) 0) 9223372036854775809) 64
  pub nought : zeros ≡ mask_to (λ (i : ℕ). eqb (get_or keys (at + i) 0) 9223372036854775808) 64
  pub every : bit_or ones zeros ≡ 18446744073709551615
