use native.Mathlib.Omega.{arith}
use mathlib.Core.Path.{◌≡◌, refl}
use Rattle.symbol_text.proofs.Hex.{splice-nothing, hex_turn, hex_ended}
use borrow.Author.Rules.{rules}
use Rattle.symbol_text.proofs.write_hex.Goals as goal

pub loop-i-init : goal.loop-i-init
loop-i-init c = (omega arith, omega arith, refl, splice-nothing _ _ _ _)

pub loop-i-preserved : goal.loop-i-preserved
loop-i-preserved c = (
  omega arith,
  omega arith,
  search rules,
  hex_turn _ _ _ _ _ _ _ _ c.loop-i.invariant.1 c.loop-i.invariant.3 (omega arith)
      c.byte_at-b.ensures c.put_hex.ensures,
)

pub returns : goal.returns
returns c =
    let e : c.loop-i.i ≡ c.args.count = omega arith in
    record { value = omega arith; s_after = hex_ended _ _ _ _ _ _ _ c.loop-i.invariant.3 e }
