use native.Mathlib.Omega.{arith}
use Rattle.symbol_text.proofs.Hex.{hex_put}
use Rattle.symbol_text.proofs.put_hex.Goals as goal

pub returns : goal.returns
returns c =
    hex_put _ _ _ _ _ c.hex_digit.ensures c.hex_digit-2.ensures c.put_byte.ensures c.put_byte-2.ensures (omega
    arith)
