use native.Mathlib.Omega.{arith}
use Rattle.symbol_text.proofs.Hex.{symbol-size, symbol-written}
use Rattle.symbol_text.proofs.write_symbol.Goals as goal

pub write_hex-end-requires : goal.write_hex-end-requires
write_hex-end-requires c =
    let k = symbol-size c.args.text.now c.args.v.0 in
    omega arith

pub put_byte-requires-2 : goal.put_byte-requires-2
put_byte-requires-2 c =
    let k = symbol-size c.args.text.now c.args.v.0 in
    omega arith

pub returns : goal.returns
returns c =
    let k = symbol-size c.args.text.now c.args.v.0 in
    record {
      value = omega arith;
      s_after = symbol-written _ _ _ _ _ _ c.put_byte.ensures c.write_hex-end.ensures.s_after c.put_byte-2.ensures
          (omega arith) (omega arith);
    }
