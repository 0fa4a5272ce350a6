-- The values of Int, Day and Truth: 64-bit payloads, ordered by the signed numbers that they are. An excluded value
-- that opens a bound is what the bound then holds, as in the Rust.
use Rattle.std.specs.Prelude.{refl, ℕ, ℤ}
use Rattle.truth.specs.Halves.{ord_z, key}
use Rattle.truth.proofs.Orders.{total-z}
use Rattle.constraints.specs.Scalars.{Scalars}

unfoldable pub payload : Scalars ℤ ℕ
payload =
    record {
      key = key;
      order = ord_z;
      total = total-z;
      opened = λ held excluded. excluded;
      opened-key = λ held excluded. refl;
    }
