-- The Internet checksum, RFC 1071: the one's complement of the one's complement sum of the 16-bit words, the high byte of
-- a word first. A last byte without a partner is followed by zero, as the RFC has it.
use Rattle.std.specs.Prelude.{ℕ, zero, suc, ◌+◌, ◌-◌, ◌*◌, ◌/◌, List, ◌∷◌, cond, length, get_or, drop, ltb}

-- one's complement addition: a carry out of the sixteen bits is added at the low end
unfoldable pub ones_add : ℕ → ℕ → ℕ
ones_add a b = cond (ltb 65535 (a + b)) (a + b - 65535) (a + b)

-- the k-th word of l
unfoldable pub big_word : List ℕ → ℕ → ℕ
big_word l k = 256 * get_or l (2 * k) 0 + get_or l (2 * k + 1) 0

-- the one's complement sum of the first n words of l
unfoldable pub ones_sum : List ℕ → ℕ → ℕ
ones_sum l zero = 0
ones_sum l (suc n) = ones_add (ones_sum l n) (big_word l n)

unfoldable pub checksum : List ℕ → ℕ
checksum l = 65535 - ones_sum l ((length l + 1) / 2)

-- the block with its bytes 0 and 1 zero, over which the checksum goes (02, 2.3)
unfoldable pub cleared : List ℕ → List ℕ
cleared b = 0 ∷ 0 ∷ drop 2 b
