-- Whole and half numbers: ℤ counted in halves. The whole number v has the key 2 · v, and an odd number lies half way
-- between two neighbouring whole ones.
use Rattle.std.specs.Prelude.{cond, ltb, ℤ, pos, negsuc}
use Rattle.std.proofs.Math.Option.{Option, none, some}
use Prim.Native.Nat as nat
use Prim.Native.Nat.{ℕ, suc, ◌+◌, ◌-◌, ◌<◌, compare}
use Rattle.std.specs.Int.{w64}
use Rattle.std.proofs.Common.{to_z}
use Rattle.division.specs.Division.{quotient, remainder, is_none}
use Rattle.std.specs.declared.cmp.Ordering.{Ordering}
use Rattle.std.specs.declared.cmp.Ordering.TheVariants.{Less, Equal, Greater}
use Rattle.truth.specs.Order.{Order}

abbrev pub ordering : nat.Ordering → Ordering
ordering Prim.Native.Nat.Ordering.lt = Less
ordering Prim.Native.Nat.Ordering.eq = Equal
ordering Prim.Native.Nat.Ordering.gt = Greater

-- The order of ℤ, and its comparison; that it is total is in proofs (Orders).
abbrev pub less_z : ℤ → ℤ → Type 0
less_z (pos m) (pos n) = m < n
less_z (pos m) (negsuc n) = ⊥
less_z (negsuc m) (pos n) = Unit {0}
less_z (negsuc m) (negsuc n) = n < m

abbrev pub cmp_z : ℤ → ℤ → Ordering
cmp_z (pos m) (pos n) = ordering (compare m n)
cmp_z (pos m) (negsuc n) = Greater
cmp_z (negsuc m) (pos n) = Less
cmp_z (negsuc m) (negsuc n) = ordering (compare n m)

abbrev pub ord_z : Order ℤ
ord_z = record { less = less_z; cmp = cmp_z }

-- A whole number, in halves.
abbrev pub twice : ℤ → ℤ
twice (pos n) = pos (n + n)
twice (negsuc n) = negsuc (suc (n + n))

-- The key of a value given as 64 bits in two's complement.
abbrev pub key : ℕ → ℤ
key bits = twice (to_z w64 bits)

-- Division of two numbers given in halves: they have the quotient of their halves, a whole number, and the remainder
-- counts halves. None for a zero divisor and for a quotient beyond 64 bits.
abbrev pub floor_divide_keys : ℤ → ℤ → Option ℤ
floor_divide_keys a b = cond (is_none a b) none (some (twice (quotient a b)))

abbrev pub modulus_keys : ℤ → ℤ → Option ℤ
modulus_keys a b = cond (is_none a b) none (some (remainder a b))

-- 64 bits moved so that their order is the order of their keys.
unfoldable pub bias_of : ℕ → ℕ
bias_of bits = cond (ltb bits 9223372036854775808) (bits + 9223372036854775808) (bits - 9223372036854775808)
