use native.Mathlib.Omega.{arith}
use Rattle.symbol_values.proofs.Beside.{beside-known}
use Rattle.symbol_values.proofs.beside_value.Goals as goal

pub symbol_cmp-requires : goal.symbol_cmp-requires
symbol_cmp-requires c = (rw c.in-Some.is at c.requires.pooled_value, rw c.in_ok-b.was at c.requires.pooled_value_2)

pub returns-in-None : goal.returns-in-None
returns-in-None c = rw (c.in_ok-b.was, c.in-None.is)

pub returns-in-Some : goal.returns-in-Some
returns-in-Some c =
    rw (c.in-Some.is, c.in_ok-b.was)
    (beside-known _ _ _ _ (λ q. omega (arith, c.type_inv.text q)) (rw c.in-Some.is at c.requires.pooled_value)
    (rw c.in_ok-b.was at c.requires.pooled_value_2) _ c.symbol_cmp.ensures _ c.beside_one.ensures)
