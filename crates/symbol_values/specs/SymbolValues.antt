-- Symbols under one row. A Text input of a record is a column, a literal or a null, so its value is null or 64 bits that tell
-- where its bytes lie (`leaf_bits`), and what a comparison says of it follows from the order of two symbols alone: beside a
-- symbol taken as the number 1 the other one is 0, 1 or 2 (`beside`).
use Rattle.std.specs.Prelude.{◌≡◌, Bool, true, cond, List, ℕ, ◌+◌, ◌*◌, ◌<◌, eqb, ℤ}
use Rattle.std.proofs.Math.Option.{Option, none, some, map}
use Rattle.records.specs.Bytes.{value_at}
use Rattle.records.specs.Shape.{in_pool}
use Rattle.records.specs.declared.record.Fields.{Fields}
use Rattle.three_valued.specs.declared.logic.Truth.{Truth}
use Rattle.truth.specs.Halves.{ord_z, key}
use Rattle.std.specs.declared.cmp.Ordering.{Ordering}
use Rattle.std.specs.declared.cmp.Ordering.TheVariants.{Less, Equal, Greater}
use Rattle.std.specs.declared.option.Option as lang
use Rattle.std.specs.declared.option.Option.TheVariants as value
use Rattle.truth.specs.declared.scalar.Scalar.{Scalar}
use Rattle.truth.specs.FromBytes.{null_marked, values_from}
use Rattle.truth.specs.Membership.{in3}
use Rattle.symbols.specs.Symbol.{symbol_key}

-- A value of the code as null or its 64 bits.
abbrev pub bits_in : lang.Option Scalar → Option ℕ
bits_in value.None = none
bits_in (value.Some v) = some v.0

-- Null, or the key of a symbol.
abbrev pub symbolic : List ℕ → Option ℕ → Option ℤ
symbolic text x = map (symbol_key text) x

-- Null, or a symbol of a pool of that many bytes.
abbrev pub PooledValue : ℕ → Option ℕ → Type 0
PooledValue size none = Unit {0}
PooledValue size (some v) = in_pool size v ≡ true

-- What a row gives a column, a literal or a null; every other kind has no value of its own.
unfoldable pub leaf_bits : List ℕ → ℕ → Fields → Option ℕ
leaf_bits row nulls f =
    cond (eqb f.kind 1) (cond (null_marked nulls f.a) none (some (value_at row f.a)))
    (cond (eqb f.kind 2) (some (f.b + 4294967296 * f.c)) none)

-- A number that 1 is to what the order says: below it, equal to it, above it.
abbrev pub beside_one : Ordering → ℕ
beside_one Less = 2
beside_one Equal = 1
beside_one Greater = 0

-- x as the number 1, and y as a number beside it.
abbrev pub as_one : Option ℕ → Option ℤ
as_one none = none
as_one (some a) = some (key 1)

abbrev pub beside : List ℕ → Option ℕ → Option ℕ → Option ℤ
beside text x none = none
beside text none (some b) = some (key 1)
beside text (some a) (some b) = some (key (beside_one (ord_z.cmp (symbol_key text a) (symbol_key text b))))

-- Count values of the pool, from the one numbered start on, are symbols of a text pool of that many bytes.
abbrev pub PooledFrom : ℕ → List ℕ → ℕ → ℕ → Type 0
PooledFrom size p start count = (k : ℕ) → k < count → in_pool size (value_at p (start + k)) ≡ true

-- is_in of x and the list of symbols with the fields f.
unfoldable pub symbol_member : List ℕ → List ℕ → Fields → Bool → Option ℤ → Truth
symbol_member text p f nulls_equal x =
    in3 (symbol_key text) ord_z nulls_equal (eqb f.code 1) (values_from p f.a f.b) x
