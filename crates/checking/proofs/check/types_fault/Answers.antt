use Rattle.records.proofs.Loops.{all_none, all_more, all_fails, all_done}
use borrow.Author.Tests.{not-true, not-false}
use lib.ListN.{length, get_or}
use mathlib.Core.Bool.{false}
use mathlib.Core.Path.{◌≡◌, sym, refl}
use Prim.Native.Nat.{ℕ, ◌<◌}
use native.Mathlib.Omega.{arith}
use Rattle.checking.proofs.Standing.{types-stand, zero_number}
use Rattle.checking.specs.Check.{types_known_in}
use Rattle.records.specs.Shape.{known_type_in}
use mathlib.Core.Path.{ap}
use mathlib.Core.Bool.{not}
use Rattle.checking.proofs.check.types_fault.Goals as goal

pub loop-ty-init : goal.loop-ty-init
loop-ty-init c = all_none _

pub returns-then-not-known_type : goal.returns-then-not-known_type
unfolding types_known_in
returns-then-not-known_type c =
    let unknown : known_type_in c.args.text (get_or c.args.t.now c.loop-ty.ty-index 0) ≡ false = rw (← c.known_type.ensures) (not-true _ (ap not c.if-not-known_type.true)) in
    let below : c.loop-ty.ty-index < length c.args.t.now = omega arith in
    record {
      t_value = (λ h. let z : ◌≡◌ {A = ℕ} 1 0 = zero_number _ _ c.fault_at.ensures.result_value h in absurd (omega (arith, z)));
      result_value = (λ
          h. (
            c.fault_at.ensures.result_value,
            sym (all_fails (λ (j : ℕ). known_type_in c.args.text (get_or c.args.t.now j
                0)) c.loop-ty.ty-index (length c.args.t.now) below unknown),
          ));
      t_value_2 = λ h l. types-stand c.args.text
          c.args.t.now c.loop-ty.ty-index below unknown (c.fault_at.ensures.ty_value l);
    }

pub loop-ty-preserved : goal.loop-ty-preserved
loop-ty-preserved c =
    all_more _ _ c.loop-ty.invariant (rw (← c.known_type.ensures) (not-false _ (ap not c.if-not-known_type.false)))

pub returns : goal.returns
unfolding types_known_in
returns c =
    record {
      t_value = (λ h. sym (all_done (λ (j : ℕ). known_type_in c.args.text (get_or c.args.t.now j 0)) c.loop-ty.ty-index
          (length c.args.t.now) (omega arith) (omega arith) c.loop-ty.invariant));
      result_value = (λ h. absurd
          (h refl));
      t_value_2 = λ h. absurd (h refl);
    }
