-- Values that carry the number of the conjunct that first gave them (02, 2.6). The key is the value's alone, so every
-- law over `Scalars` holds of them: of equal values the one held stays, and its number with it. An excluded value that
-- opens a bound is what the bound then holds, under the bound's number; which conjunct's it was is kept beside it.
use Rattle.std.specs.Prelude.{refl, ℕ, suc, ℤ}
use Rattle.truth.specs.Halves.{ord_z, key}
use Rattle.truth.proofs.Orders.{total-z}
use Rattle.constraints.specs.Scalars.{Scalars}

-- The 64 bits of a value, and the number of the conjunct that gave it, from 0. `opener` is 0, or one more than the number
-- of the conjunct whose excluded value opened the bound.
pub record Lined : Type 0 where
  pub bits : ℕ
  pub line : ℕ
  pub opener : ℕ

-- A value as conjunct j gives it.
abbrev pub on_line : ℕ → ℕ → Lined
on_line j v = record { bits = v; line = j; opener = 0 }

-- What the bound `held` is once the value `excluded` opened it.
abbrev pub opened_lined : Lined → Lined → Lined
opened_lined held excluded = record { bits = excluded.bits; line = held.line; opener = suc excluded.line }

unfoldable pub lined : Scalars ℤ Lined
lined =
    record {
      key = λ v. key v.bits;
      order = ord_z;
      total = total-z;
      opened = opened_lined;
      opened-key = λ held excluded. refl;
    }
