use native.Mathlib.Omega.{arith}
use Rattle.decimals.proofs.Decimals.{length-63}
use Rattle.decimals.proofs.Writing.{signed_low, signed_high}
use Rattle.decimals.proofs.signed_length.Goals as goal

-- the clauses by their names
named : {A0 A1 : Type 0} → A0 × A1 → record { value : A0; upper_bound : A1 }
named p = record { value = p.0; upper_bound = p.1 }

pub returns-then-v-lt9223372036854775808 : goal.returns-then-v-lt9223372036854775808
returns-then-v-lt9223372036854775808 c =
    named (rw (signed_low c.args.v.0 (omega arith)) (c.decimal_length.ensures.value, c.decimal_length.ensures.upper_bound))

pub returns : goal.returns
returns c =
    named (rw (signed_high _ _ (omega arith) c.without_minus.ensures (omega arith)) (let g = length-63 c.without_minus.result (omega arith) in (omega arith, omega arith)))
