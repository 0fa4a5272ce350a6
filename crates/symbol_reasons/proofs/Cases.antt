-- Texts of screens with symbols, computed on the definitions. The text pool is "SPXaNDXa".
use mathlib.Core.Path.{◌≡◌, refl}
use mathlib.Core.List.{List, [], ◌∷◌}
use Prim.Native.Nat.{ℕ}
use Rattle.records.specs.Bytes.{word, value_at}
use Rattle.records.specs.Course.{up_to, course}
use Rattle.records.specs.Operator.{operator_at}
use Rattle.records.specs.Record.{fields_at, closed_at, decode, record_at, encode}
use Rattle.records.specs.Shape.{uses, max_code}
use Rattle.truth.specs.FromBytes.{values_from}
use Rattle.decimals.specs.Decimal.{digits, decimal}
use Rattle.symbols.specs.Symbol.{bytes_from, symbol, symbol_number}
use Rattle.symbol_text.specs.Hex.{hex_digit, hex_bytes, symbol_text}
use Rattle.reasons.specs.Text.{operator_name, value_text, reason_text, reasons_text}
use Rattle.symbol_screens.specs.Cases.{pool, line, both}
use Rattle.symbol_screens.specs.Reading.{held_at}
use Rattle.symbol_reasons.specs.Lined.{holding_lined, held_lines_from}
use Rattle.symbol_reasons.specs.Explained.{explained_text_with}

abbrev text : List ℕ → List ℕ
text records = explained_text_with pool records [] 7 6

-- s0 >= "a" (at 3), s0 != "a" (at 7): `0 Gt t61 0`, the bound's line though the excluded value opened it
pub opened-line : text (both (line 0 7 3 1) (line 3 2 7 1)) ≡ 48 ∷ 32 ∷ 71 ∷ 116 ∷ 32 ∷ 116 ∷ 54 ∷ 49 ∷ 32 ∷ 48 ∷ 10 ∷ []
unfolding word value_at up_to course operator_at fields_at closed_at decode record_at encode uses max_code values_from digits decimal
    bytes_from symbol symbol_number hex_digit hex_bytes symbol_text operator_name value_text reason_text reasons_text held_at holding_lined
    held_lines_from explained_text_with
opened-line = refl

-- s0 >= "SP", s0 >= "SPX": `0 GtEq t535058 1`
pub longer-symbol :
    text (both (line 0 7 0 2) (line 3 7 0 3)) ≡
    48 ∷ 32 ∷ 71 ∷ 116 ∷ 69 ∷ 113 ∷ 32 ∷ 116 ∷ 53 ∷ 51 ∷ 53 ∷ 48 ∷ 53 ∷ 56 ∷ 32 ∷ 49 ∷ 10 ∷ []
unfolding word value_at up_to course operator_at fields_at closed_at decode record_at encode uses max_code values_from digits decimal
    bytes_from symbol symbol_number hex_digit hex_bytes symbol_text operator_name value_text reason_text reasons_text held_at holding_lined
    held_lines_from explained_text_with
longer-symbol = refl
