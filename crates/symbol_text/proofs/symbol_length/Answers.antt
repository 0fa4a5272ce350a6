use native.Mathlib.Omega.{arith}
use Rattle.symbol_text.proofs.Hex.{symbol-size}
use Rattle.symbol_text.proofs.symbol_length.Goals as goal

pub returns : goal.returns
returns c = record { by_index = λ text. omega (arith, symbol-size text c.args.v.0); upper_bound = omega arith }
