-- Symbols (02, 2.10): 0 to 16 bytes of the lent text pool, ordered byte by byte, a prefix below what extends it.
use Rattle.std.specs.Prelude.{◌≡◌, List, [], ◌∷◌, ◌⊎◌, ℤ, pos, get_or}
use Prim.Native.Nat.{ℕ, zero, suc, ◌+◌, ◌-◌, ◌*◌, ◌^◌, ◌<◌, ◌≤◌, compare}
use Rattle.records.specs.Shape.{start_of, length_of}
use Rattle.truth.specs.Order.{Order}
use Rattle.truth.specs.Halves.{ordering, twice}
use Rattle.std.specs.declared.cmp.Ordering.{Ordering}
use Rattle.std.specs.declared.cmp.Ordering.TheVariants.{Less, Equal, Greater}

-- Count bytes of the pool, from the one numbered start on.
unfoldable pub bytes_from : List ℕ → ℕ → ℕ → List ℕ
bytes_from text start zero = []
bytes_from text start (suc count) = get_or text start 0 ∷ bytes_from text (suc start) count

-- The bytes of a value: equal bytes are equal values wherever they lie.
unfoldable pub symbol : List ℕ → ℕ → List ℕ
symbol text v = bytes_from text (start_of v) (length_of v)

-- The order of byte strings, and its comparison; that it is total is in proofs (Orders).
abbrev pub less_bytes : List ℕ → List ℕ → Type 0
less_bytes [] [] = ⊥
less_bytes [] (y ∷ m) = Unit {0}
less_bytes (x ∷ l) [] = ⊥
less_bytes (x ∷ l) (y ∷ m) = (x < y) ⊎ ((x ≡ y) × less_bytes l m)

-- The first byte that differs decides.
abbrev pub or_else : Ordering → Ordering → Ordering
or_else Less o = Less
or_else Equal o = o
or_else Greater o = Greater

abbrev pub cmp_bytes : List ℕ → List ℕ → Ordering
cmp_bytes [] [] = Equal
cmp_bytes [] (y ∷ m) = Less
cmp_bytes (x ∷ l) [] = Greater
cmp_bytes (x ∷ l) (y ∷ m) = or_else (ordering (compare x y)) (cmp_bytes l m)

abbrev pub ord_bytes : Order (List ℕ)
ord_bytes = record { less = less_bytes; cmp = cmp_bytes }

-- Of m bytes from place i on and n bytes from place j on, k bytes at the front can be left out of the comparison.
pub record Rest (text : List ℕ) (i m j n k : ℕ) : Type 0 where
  pub left : k ≤ m
  pub right : k ≤ n
  pub same : cmp_bytes (bytes_from text i m) (bytes_from text j n)
      ≡ cmp_bytes (bytes_from text (i + k) (m - k)) (bytes_from text (j + k) (n - k))

-- A string of at most k bytes as a number: k digits to the base 257, a byte b is the digit b + 1, past the end stands 0.
-- The order of the numbers is the order of the strings (`number-order`).
abbrev pub number_of : ℕ → List ℕ → ℕ
number_of zero l = 0
number_of (suc k) [] = 0
number_of (suc k) (b ∷ l) = suc b * 257 ^ k + number_of k l

-- The number of a value's bytes, and its key in the ordered type of Int, Day and Truth.
unfoldable pub symbol_number : List ℕ → ℕ → ℕ
symbol_number text v = number_of 16 (symbol text v)

abbrev pub symbol_key : List ℕ → ℕ → ℤ
symbol_key text v = twice (pos (symbol_number text v))
