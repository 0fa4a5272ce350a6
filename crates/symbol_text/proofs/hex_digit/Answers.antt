use native.Mathlib.Omega.{arith}
use Rattle.symbol_text.proofs.Hex.{digit_low, digit_high}
use mathlib.Core.Path.{sym}
use Rattle.symbol_text.proofs.hex_digit.Goals as goal

pub returns-then-n-lt10 : goal.returns-then-n-lt10
returns-then-n-lt10 c = sym (digit_low _ (omega arith))

pub returns : goal.returns
returns c = sym (digit_high _ (omega arith))
