use Rattle.checking.proofs.Sizes.{used-small_in, used-lent_in, pool-small_in, table-known_in}
use Rattle.checking.proofs.Accepted.{within-limits}
use Rattle.checking.proofs.Standing.{within-stand}
use mathlib.Core.Path.{refl, sym, ◌∙◌}
use native.Mathlib.Omega.{arith}
use Rattle.record_check.specs.Outside.{Counts}
use Rattle.checking.proofs.check.check_with_text.Goals as goal

pub returns-then-k-ne0 : goal.returns-then-k-ne0
returns-then-k-ne0 c =
    let r = c.limits_fault-k.ensures.fact c.if-k-ne0.true in
    record { result_value = r.1; counted = (λ h. absurd (r.0 h)); stands = c.limits_fault-k.ensures.stands c.if-k-ne0.true }

pub overflow_cast-u : goal.overflow_cast-u
overflow_cast-u c = omega (arith, used-small_in _ _ _ _ (c.limits_fault-k.ensures.t_value c.if-k-ne0.false).1)

pub overflow_cast-r : goal.overflow_cast-r
overflow_cast-r c =
    let k = c.limits_fault-k.ensures.t_value c.if-k-ne0.false in
    omega (arith, used-small_in _ _ _ _ k.1, k.2)

pub records_fault-requires : goal.records_fault-requires
unfolding Counts
records_fault-requires c =
    let k = c.limits_fault-k.ensures.t_value c.if-k-ne0.false in
    let small = used-small_in _ _ _ _ k.1 in
    record {
      counts = ((λ h. absurd (h refl)), (λ h. absurd (h refl)), (λ h. absurd (h refl)));
      used_in_bounds = c.requires.used_in_bounds small;
      used_in_bounds_2 = c.requires.used_in_bounds_2
          small;
      used_in_bounds_3 = used-lent_in _ _ _ _ k.1;
      t_value = table-known_in _ _ k.0;
      root_lt_used = k.2;
    }

pub returns-then-used-le64 : goal.returns-then-used-le64
returns-then-used-le64 c =
    let k = c.limits_fault-k.ensures.t_value c.if-k-ne0.false in
    record {
      result_value = c.records_fault.ensures.result_value ∙ sym (within-limits _ _ _ _ _ _ k.0 k.1 k.2);
      counted = c.records_fault.ensures.counted;
      stands = λ z l. within-stand c.args.text _ _ _ _ _ z k.0 k.1 k.2 (c.records_fault.ensures.records_stand z
          l);
    }

pub records_counted-requires : goal.records_counted-requires
records_counted-requires c =
    let k = c.limits_fault-k.ensures.t_value c.if-k-ne0.false in
    let small = used-small_in _ _ _ _ k.1 in
    record { p_len_bound = pool-small_in _ _ _ _ k.1; used_in_bounds = c.requires.used_in_bounds small; used_in_bounds_2 = c.requires.used_in_bounds_2 small; used_in_bounds_3 = used-lent_in _ _ _ _ k.1; t_value = table-known_in _ _ k.0; root_lt_used = k.2 }

pub returns-then-used-gt512 : goal.returns-then-used-gt512
returns-then-used-gt512 c =
    let k = c.limits_fault-k.ensures.t_value c.if-k-ne0.false in
    record { result_value = c.records_counted.ensures.result_value ∙ sym (within-limits _ _ _ _ _ _ k.0 k.1 k.2); counted = c.records_counted.ensures.counted; stands = λ z l. within-stand c.args.text _ _ _ _ _ z k.0 k.1 k.2 (c.records_counted.ensures.records_stand z l) }

pub records_fault-requires-then-p-le1024 : goal.records_fault-requires-then-p-le1024
unfolding Counts
records_fault-requires-then-p-le1024 c =
    let k = c.limits_fault-k.ensures.t_value c.if-k-ne0.false in
    let small = used-small_in _ _ _ _ k.1 in
    record {
      counts = ((λ h. absurd (h refl)), (λ h. absurd (h refl)), (λ h. absurd (h refl)));
      used_in_bounds = c.requires.used_in_bounds small;
      used_in_bounds_2 = c.requires.used_in_bounds_2
          small;
      used_in_bounds_3 = used-lent_in _ _ _ _ k.1;
      t_value = table-known_in _ _ k.0;
      root_lt_used = k.2;
    }

pub returns-then-p-le1024 : goal.returns-then-p-le1024
returns-then-p-le1024 c =
    let k = c.limits_fault-k.ensures.t_value c.if-k-ne0.false in
    record {
      result_value = c.records_fault-then-p-le1024.ensures.result_value ∙ sym (within-limits _ _ _ _ _ _ k.0 k.1 k.2);
      counted = c.records_fault-then-p-le1024.ensures.counted;
      stands = λ z l. within-stand c.args.text _ _ _ _ _ z k.0 k.1 k.2 (c.records_fault-then-p-le1024.ensures.records_stand
          z l);
    }

pub records_counted-requires-2 : goal.records_counted-requires-2
records_counted-requires-2 c =
    let k = c.limits_fault-k.ensures.t_value c.if-k-ne0.false in
    let small = used-small_in _ _ _ _ k.1 in
    record { p_len_bound = pool-small_in _ _ _ _ k.1; used_in_bounds = c.requires.used_in_bounds small; used_in_bounds_2 = c.requires.used_in_bounds_2 small; used_in_bounds_3 = used-lent_in _ _ _ _ k.1; t_value = table-known_in _ _ k.0; root_lt_used = k.2 }

pub returns : goal.returns
returns c =
    let k = c.limits_fault-k.ensures.t_value c.if-k-ne0.false in
    record { result_value = c.records_counted-2.ensures.result_value ∙ sym (within-limits _ _ _ _ _ _ k.0 k.1 k.2); counted = c.records_counted-2.ensures.counted; stands = λ z l. within-stand c.args.text _ _ _ _ _ z k.0 k.1 k.2 (c.records_counted-2.ensures.records_stand z l) }
