-- What a literal or a list entry of a screen with symbols holds (02, 2.10): a number, or a symbol, told by where its bytes
-- lie in the text pool.
use Rattle.std.specs.Prelude.{cond, List, refl, ℕ, eqb, ℤ}
use Rattle.truth.specs.Halves.{ord_z, key}
use Rattle.truth.proofs.Orders.{total-z}
use Rattle.symbols.specs.Symbol.{symbol_key}
use Rattle.constraints.specs.Scalars.{Scalars}

pub data Held : Type 0 where
  Number : ℕ → Held
  Symbol : ℕ → Held

-- 64 bits of a type.
abbrev pub held : ℕ → ℕ → Held
held ty v = cond (eqb ty 4) (Symbol v) (Number v)

-- The bits, which a rebuilt literal has: "a rebuilt literal uses the start that the kept value had".
abbrev pub bits_of : Held → ℕ
bits_of (Number v) = v
bits_of (Symbol v) = v

-- The key of a symbol is that of its bytes: "equal bytes are equal values wherever they lie". Values of two types never meet
-- in a checked screen, so how the keys of symbols lie to those of numbers says nothing.
abbrev pub key_in : List ℕ → Held → ℤ
key_in text (Number v) = key v
key_in text (Symbol v) = symbol_key text v

-- An excluded value that opens a bound is what the bound then holds, as in the Rust: "for a bound opened by an excluded value
-- the excluded one's" start.
unfoldable pub holding : List ℕ → Scalars ℤ Held
holding text =
    record {
      key = key_in text;
      order = ord_z;
      total = total-z;
      opened = λ bound excluded. excluded;
      opened-key = λ bound excluded. refl;
    }
