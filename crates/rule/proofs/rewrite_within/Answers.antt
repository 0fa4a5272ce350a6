use mathlib.Core.Path.{refl, sym, ◌∙◌}
use Prim.Native.Nat.{◌≤◌, ◌<◌, ◌%◌}
use native.Mathlib.Omega.{arith}
use borrow.Author.Tests.{not-false, eqb-true}
use Rattle.checking.proofs.Accepted.{checked-in, checked-used_in}
use Rattle.checking.proofs.Standing.{refused-of}
use Rattle.check_lent.proofs.Lent.{unfaulted}
use Rattle.symbol_screens.specs.Rewriting.{lent}
use Rattle.rewrite_symbols.proofs.Refusals.{refused-explains, with_refused}
use Rattle.rule.proofs.rewrite_within.Goals as goal

pub returns-then-fault-ne0 : goal.returns-then-fault-ne0
returns-then-fault-ne0 c =
    record { explains = (λ _. refused-explains c.args.text.now c.args.t.now c.args.rs.now c.args.p.now c.args.used c.args.root (c.check_beside-fault.result % 8) c.refused.result c.args.reasons.now c.refused.ensures.answer_value c.refused.ensures.length_value (with_refused c.args.text.now c.args.t.now c.args.rs.now c.args.p.now c.args.used c.args.root (c.check_beside-fault.result % 8) (sym c.check_beside-fault.ensures.result_value ∙ refused-of c.check_beside-fault.result (c.check_beside-fault.result % 8) refl c.if-fault-ne0.true))) }

pub overflow_cast-used : goal.overflow_cast-used
overflow_cast-used c =
    let accepted = sym c.check_beside-fault.ensures.result_value ∙ unfaulted _ c.if-fault-ne0.false in
    let ok = checked-in (lent c.args.text.now) c.args.t.now c.args.rs.now c.args.p.now
    c.args.used c.args.root accepted in
    let h : c.args.used ≤ 4096 = checked-used_in (lent c.args.text.now) c.args.t.now c.args.rs.now c.args.p.now c.args.used c.args.root ok in
    omega (arith, h)

pub overflow_cast-root : goal.overflow_cast-root
overflow_cast-root c =
    let accepted = sym c.check_beside-fault.ensures.result_value ∙ unfaulted _ c.if-fault-ne0.false in
    let ok = checked-in (lent c.args.text.now) c.args.t.now c.args.rs.now c.args.p.now
    c.args.used c.args.root accepted in
    let small : c.args.used ≤ 4096 = checked-used_in (lent c.args.text.now) c.args.t.now c.args.rs.now c.args.p.now c.args.used c.args.root ok in
    let h : c.args.root < c.args.used = ok.root-used in
    omega (arith, h, small)

pub rewrite_checked-requires : goal.rewrite_checked-requires
rewrite_checked-requires c =
    let accepted = sym c.check_beside-fault.ensures.result_value ∙ unfaulted _ c.if-fault-ne0.false in
    let ok = checked-in (lent c.args.text.now) c.args.t.now c.args.rs.now c.args.p.now
    c.args.used c.args.root accepted in
    let h : c.args.root < c.args.used = ok.root-used in
    let small : c.args.used ≤ 4096 = checked-used_in (lent c.args.text.now) c.args.t.now c.args.rs.now c.args.p.now c.args.used c.args.root ok in
    record { accepted = accepted; free = (λ q. c.check_beside-fault.ensures.text_bound (eqb-true _ _ (not-false _ q))); counted = (λ a k. c.check_beside-fault.ensures.counted (unfaulted _ c.if-fault-ne0.false) a (omega (arith, k, h))); there = omega (arith, h, c.requires.used_in_bounds_2 small) }
