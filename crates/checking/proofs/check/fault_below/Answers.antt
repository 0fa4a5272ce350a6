use Prim.Native.Nat.{ℕ, min}
use lib.ListN.{length-set}
use mathlib.Core.Path.{◌≡◌, refl, sym, ◌∙◌, subst}
use native.Mathlib.Omega.{arith}
use Rattle.record_check.proofs.Filling.{filled_more}
use Rattle.checking.proofs.Steps.{step_right, entered-none, entered-more}
use Rattle.checking.specs.Tree.{tree_count}
use Rattle.record_check.specs.Step.{Entered}
use Rattle.checking.specs.Check.{record_fault_in}
use Rattle.records.specs.Record.{node}
use Rattle.records.specs.Bytes.{first}
use Rattle.records.proofs.Loops.{first-none, first_more, first_found}
use Rattle.checking.proofs.Standing.{zero_number, none-stands, found-stands}
use Rattle.checking.proofs.Answers.{fault-small}
use Rattle.checking.specs.Check.{first_fault_in}
use borrow.Author.Rules.{rules}
use Rattle.checking.proofs.check.fault_below.Goals as goal

pub loop-i-init : goal.loop-i-init
loop-i-init c =
    (search rules, search rules, search rules, entered-none _ _ _, λ a h. absurd (omega arith), first-none _)

pub record_step-s-requires : goal.record_step-s-requires
record_step-s-requires c =
    record {
      counts = c.requires.counts;
      n_in_bounds = omega (arith, c.loop-i-test.true, c.loop-i.invariant.1, c.requires.used_in_bounds);
      n_in_bounds_2 = omega (
        arith,
        c.loop-i-test.true,
        c.loop-i.invariant.2,
        c.requires.used_in_bounds_2,
      );
    }

pub fault_at-requires : goal.fault_at-requires
fault_at-requires c =
    let right = step_right c.args.text c.args.t.now c.args.rs.now c.args.p.now c.loop-i.types c.loop-i.trees c.loop-i.i c.fields_in-f.result c.record_step-s.result c.requires.t_value c.loop-i.invariant.3
    c.loop-i.invariant.4 c.fields_in-f.ensures c.record_step-s.ensures in
    omega (
      arith,
      right.fault,
      fault-small c.args.text c.args.t.now c.args.rs.now c.args.p.now (node c.loop-i.i),
    )

pub returns-then-s-ne0 : goal.returns-then-s-ne0
unfolding first_fault_in
returns-then-s-ne0 c =
    let right = step_right c.args.text c.args.t.now c.args.rs.now c.args.p.now c.loop-i.types c.loop-i.trees c.loop-i.i c.fields_in-f.result c.record_step-s.result c.requires.t_value c.loop-i.invariant.3
    c.loop-i.invariant.4 c.fields_in-f.ensures c.record_step-s.ensures in
    record {
      result_value = c.fault_at.ensures.result_value ∙ first_found (λ (j : ℕ). record_fault_in c.args.text c.args.t.now c.args.rs.now c.args.p.now (node j)) c.loop-i.i c.args.used c.record_step-s.result.fault c.loop-i-test.true c.loop-i.invariant.5 right.fault c.if-s-ne0.true;
      value = (λ h. absurd (c.if-s-ne0.true (sym c.fault_at.ensures.result_value ∙ h)));
      entered = (λ h.
          absurd (c.if-s-ne0.true (zero_number _ _ c.fault_at.ensures.result_value h)));
      counted = (λ h. absurd (c.if-s-ne0.true (zero_number _ _
          c.fault_at.ensures.result_value h)));
      fault_stands = λ z l. found-stands c.args.t.now c.args.rs.now c.args.p.now
          c.args.text c.args.used c.loop-i.i c.record_step-s.result.fault c.fields_in-f.result z c.loop-i-test.true c.loop-i.invariant.5 right.fault c.if-s-ne0.true c.fields_in-f.ensures (c.fault_at.ensures.ty_value l);
    }

pub bounds-types-i : goal.bounds-types-i
bounds-types-i c = omega (arith, c.loop-i-test.true, c.loop-i.invariant.1, c.requires.used_in_bounds)

pub overflow_cast-trees : goal.overflow_cast-trees
overflow_cast-trees c = omega (arith, c.loop-i-test.true, c.ranges.used.fits)

pub offset_bounds-trees-i : goal.offset_bounds-trees-i
offset_bounds-trees-i c = omega (arith, c.loop-i-test.true, c.ranges.used.fits)

pub bounds-trees-i : goal.bounds-trees-i
bounds-trees-i c = omega (arith, c.loop-i-test.true, c.loop-i.invariant.2, c.requires.used_in_bounds_2)

pub loop-i-preserved : goal.loop-i-preserved
loop-i-preserved c =
    let right = step_right c.args.text c.args.t.now c.args.rs.now c.args.p.now c.loop-i.types c.loop-i.trees c.loop-i.i c.fields_in-f.result c.record_step-s.result c.requires.t_value c.loop-i.invariant.3
    c.loop-i.invariant.4 c.fields_in-f.ensures c.record_step-s.ensures in (
      omega (arith, c.loop-i-test.true),
      simp length-set c.loop-i.invariant.1,
      simp length-set c.loop-i.invariant.2,
      entered-more c.args.t.now c.args.rs.now c.loop-i.types c.loop-i.i c.record_step-s.result.entry (omega (
        arith,
        c.loop-i-test.true,
        c.loop-i.invariant.1,
        c.requires.used_in_bounds,
      )) c.loop-i.invariant.3 (right.entry c.if-s-ne0.false),
      filled_more (λ a. min
          (tree_count c.args.rs.now a) 4097) c.loop-i.trees c.loop-i.i c.cut.result (omega (
            arith,
            c.loop-i-test.true,
            c.loop-i.invariant.2,
            c.requires.used_in_bounds_2,
          )) c.loop-i.invariant.4 (c.cut.ensures ∙ right.tree c.if-s-ne0.false),
      first_more (λ (j : ℕ).
          record_fault_in c.args.text c.args.t.now c.args.rs.now c.args.p.now (node j)) c.loop-i.i
          c.loop-i.invariant.5 (sym right.fault ∙ c.if-s-ne0.false),
    )

pub returns : goal.returns
unfolding first_fault_in
returns c =
    let e : c.loop-i.i ≡ c.args.used = omega arith in
    let zeros = subst (λ k. first (λ (j : ℕ). record_fault_in c.args.text c.args.t.now c.args.rs.now c.args.p.now (node j)) k ≡ 0) e c.loop-i.invariant.5 in
    record {
      result_value = sym zeros;
      value = (λ h. refl);
      entered = (λ h. subst (Entered c.args.t.now c.args.rs.now c.loop-i.types) e c.loop-i.invariant.3);
      counted = (λ h a k. c.loop-i.invariant.4 a (omega arith));
      fault_stands = λ z l. none-stands c.args.t.now c.args.rs.now
          c.args.p.now c.args.text c.args.used z zeros;
    }
