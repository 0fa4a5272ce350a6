use Rattle.checking.proofs.Steps.{entered-type}
use Rattle.checking.proofs.Accepted.{not-accepted}
use Rattle.records.proofs.Laws.{flags}
use Rattle.checking.specs.Fault.{answer_of}
use Rattle.checking.proofs.Standing.{no_accepted_of, refused-record, accepted-or-7, records-stand}
use mathlib.Core.Path.{refl}
use native.Mathlib.Omega.{arith}
use Rattle.checking.proofs.check.records_fault.Goals as goal

pub fault_below-f-requires : goal.fault_below-f-requires
fault_below-f-requires c =
    record { counts = c.requires.counts; used_in_bounds = c.requires.used_in_bounds; used_in_bounds_2 = c.requires.used_in_bounds_2; used_in_bounds_3 = c.requires.used_in_bounds_3; t_value = c.requires.t_value }

pub returns-then-f-ne0 : goal.returns-then-f-ne0
returns-then-f-ne0 c =
    record {
      result_value = refused-record _ _ _ _ _ _ _ c.fault_below-f.ensures.result_value c.fault_below-f.ensures.value c.if-f-ne0.true;
      counted = (λ h.
          absurd (no_accepted_of _ _ refl (λ q. c.if-f-ne0.true (c.fault_below-f.ensures.value q)) h));
      records_stand = λ z l. records-stand _
          _ _ _ _ (c.fault_below-f.ensures.fault_stands z l);
    }

pub returns-then-types-root-ne3 : goal.returns-then-types-root-ne3
unfolding answer_of
returns-then-types-root-ne3 c =
    let read = entered-type c.args.t.now c.args.rs.now _ c.args.used c.args.root
    (c.fault_below-f.ensures.entered c.if-f-ne0.false) c.requires.root_lt_used in
    let same = accepted-or-7 c.args.text c.args.t.now c.args.rs.now c.args.p.now c.args.used c.args.root _ c.fault_below-f.ensures.result_value c.if-f-ne0.false in
    record { result_value = search (flags, same, read); counted = (λ h. absurd (not-accepted 7 h)); records_stand = λ z l. records-stand _ _ _ _ _ (c.fault_below-f.ensures.fault_stands z (omega (arith, c.if-f-ne0.false))) }

pub returns : goal.returns
unfolding answer_of
returns c =
    let read = entered-type c.args.t.now c.args.rs.now _ c.args.used c.args.root
    (c.fault_below-f.ensures.entered c.if-f-ne0.false) c.requires.root_lt_used in
    let same = accepted-or-7 c.args.text c.args.t.now c.args.rs.now c.args.p.now c.args.used c.args.root _ c.fault_below-f.ensures.result_value c.if-f-ne0.false in
    record {
      result_value = search (flags, same, read);
      counted = (λ h. c.fault_below-f.ensures.counted c.if-f-ne0.false);
      records_stand = λ z l. records-stand _ _
          _ _ _ (c.fault_below-f.ensures.fault_stands z (omega (arith, c.if-f-ne0.false)));
    }
