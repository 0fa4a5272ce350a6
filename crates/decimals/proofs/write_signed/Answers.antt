use native.Mathlib.Omega.{arith}
use mathlib.Core.Path.{refl}
use lib.ListN.{length-append}
use Rattle.merge.proofs.Splices.{splice-then}
use Rattle.decimals.proofs.Writing.{signed_low, signed_high}
use Rattle.decimals.proofs.write_signed.Goals as goal

-- the clauses by their names
named : {A0 A1 : Type 0} → A0 × A1 → record { value : A0; s_after : A1 }
named p = record { value = p.0; s_after = p.1 }

pub write_number-requires : goal.write_number-requires
write_number-requires c = rw (signed_low c.args.v.0 (omega arith)) at c.requires

pub returns-then-v-lt9223372036854775808 : goal.returns-then-v-lt9223372036854775808
returns-then-v-lt9223372036854775808 c =
    named (rw (signed_low c.args.v.0 (omega arith)) (c.write_number.ensures.value, c.write_number.ensures.s_after))

pub write_number-requires-2 : goal.write_number-requires-2
write_number-requires-2 c =
    omega (
      arith,
      rw (signed_high c.args.v.0 _ (omega arith) c.without_minus.ensures (omega arith)) at
          c.requires,
    )

pub returns : goal.returns
returns c =
    let e = signed_high c.args.v.0 _ (omega arith) c.without_minus.ensures (omega arith) in
    let h = rw e at c.requires in
    named (rw e (
      omega arith,
      splice-then _ _ _ _ _ c.put_byte.ensures c.write_number-2.ensures.s_after refl
          (simp length-append (omega arith)),
    ))
