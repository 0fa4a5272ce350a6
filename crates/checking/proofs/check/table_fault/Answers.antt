use mathlib.Core.Path.{refl, ◌∙◌}
use native.Mathlib.Omega.{arith}
use Rattle.checking.proofs.Standing.{long-table, short-table}
use Rattle.checking.proofs.check.table_fault.Goals as goal

pub returns-then-t-gt64 : goal.returns-then-t-gt64
returns-then-t-gt64 c =
    let long = long-table c.args.t.now c.if-t-gt64.true in
    record { t_value = (λ h. absurd (omega (arith, h))); result_value = (λ h. (refl, long c.args.text)); t_value_2 = λ h l s. long s }

pub returns : goal.returns
returns c =
    let short = short-table c.args.t.now (omega (arith, c.if-t-gt64.false)) in
    record {
      t_value = (λ h. short c.args.text ∙ c.types_fault.ensures.t_value h);
      result_value = (λ h. (
        (c.types_fault.ensures.result_value h).0,
        short
            c.args.text ∙ (c.types_fault.ensures.result_value h).1,
      ));
      t_value_2 = λ h l s. short s ∙ c.types_fault.ensures.t_value_2 h l s;
    }
