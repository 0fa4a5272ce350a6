use Rattle.checking.proofs.Sizes.{used-small_in, used-lent_in, table-known_in}
use Rattle.checking.proofs.Accepted.{within-limits}
use mathlib.Core.Path.{refl, sym, ◌∙◌}
use native.Mathlib.Omega.{arith}
use Rattle.record_check.specs.Outside.{Counts}
use Rattle.checking.proofs.check.check_few.Goals as goal

pub returns-then-k-ne0 : goal.returns-then-k-ne0
returns-then-k-ne0 c = c.answer_of.ensures ∙ (c.limits_fault-k.ensures.fact c.if-k-ne0.true).1

pub overflow_cast-r : goal.overflow_cast-r
overflow_cast-r c =
    let k = c.limits_fault-k.ensures.t_value c.if-k-ne0.false in
    omega (arith, used-small_in _ _ _ _ k.1, k.2)

pub records_fault-requires : goal.records_fault-requires
unfolding Counts
records_fault-requires c =
    let k = c.limits_fault-k.ensures.t_value c.if-k-ne0.false in
    record {
      counts = ((λ h. absurd (h refl)), (λ h. absurd (h refl)), (λ h. absurd (h refl)));
      used_in_bounds = omega (arith, c.requires);
      used_in_bounds_2 = omega
          (arith, c.requires);
      used_in_bounds_3 = used-lent_in _ _ _ _ k.1;
      t_value = table-known_in _ _ k.0;
      root_lt_used = k.2;
    }

pub returns : goal.returns
returns c =
    let k = c.limits_fault-k.ensures.t_value c.if-k-ne0.false in
    c.answer_of-2.ensures ∙ c.records_fault.ensures.result_value ∙ sym (within-limits _ _ _ _ _ _ k.0 k.1 k.2)
