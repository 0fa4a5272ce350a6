-- Outside examples of the checksum, computed on the definition.
use mathlib.Core.Path.{◌≡◌, refl}
use mathlib.Core.List.{List, [], ◌∷◌}
use Prim.Native.Nat.{ℕ}
use Rattle.checksum.specs.Checksum.{ones_add, big_word, ones_sum, checksum}

-- RFC 1071, section 3: the words 0001 f203 f4f5 f6f7 have the sum ddf2, so the checksum is 220d
abbrev numerical : List ℕ
numerical = 0 ∷ 1 ∷ 242 ∷ 3 ∷ 244 ∷ 245 ∷ 246 ∷ 247 ∷ []

pub rfc-1071 : (ones_sum numerical 4 ≡ 56818) × (checksum numerical ≡ 8717)
unfolding ones_add big_word ones_sum checksum
rfc-1071 = (refl, refl)

-- an IPv4 header as it is often shown, its checksum's bytes zero: b861
abbrev header : List ℕ
header =
    69 ∷ 0 ∷ 0 ∷ 115 ∷ 0 ∷ 0 ∷ 64 ∷ 0 ∷ 64 ∷ 17 ∷ 0 ∷ 0 ∷ 192 ∷ 168 ∷ 0 ∷ 1 ∷ 192 ∷ 168 ∷ 0 ∷ 199 ∷ []

pub ipv4_header : checksum header ≡ 47201
unfolding ones_add big_word ones_sum checksum
ipv4_header = refl

-- a last byte without a partner counts as the high one
pub odd_length : checksum (1 ∷ []) ≡ 65279
unfolding ones_add big_word ones_sum checksum
odd_length = refl
