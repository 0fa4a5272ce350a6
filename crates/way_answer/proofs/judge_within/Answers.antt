use mathlib.Core.Path.{sym, refl}
use Rattle.std.proofs.lemmas.Result.{err_from_is_err_and}
use Prim.Native.Nat.{◌≤◌, ◌<◌}
use native.Mathlib.Omega.{arith}
use Rattle.checking.proofs.Accepted.{checked, checked-used, accepted-root}
use Rattle.way_answer.proofs.Answers.{way-refused}
use Rattle.way_answer.proofs.judge_within.Goals as goal

pub overflow_cast-used : goal.overflow_cast-used
overflow_cast-used c =
    let h : c.args.used ≤ 4096 = checked-used c.args.t.now c.args.rs.now c.args.p.now c.args.used c.args.root (checked c.args.t.now c.args.rs.now c.args.p.now c.args.used c.args.root (sym c.in_ok-check_counted.ensures.value)) in
    omega (arith, h)

pub overflow_cast-root : goal.overflow_cast-root
overflow_cast-root c =
    let h : c.args.root < 4096 = accepted-root c.args.t.now c.args.rs.now c.args.p.now c.args.used c.args.root (sym c.in_ok-check_counted.ensures.value) in
    omega (arith, h)

pub judge_checked-requires : goal.judge_checked-requires
judge_checked-requires c =
    let accepted = sym c.in_ok-check_counted.ensures.value in
    let ok = checked c.args.t.now c.args.rs.now c.args.p.now c.args.used c.args.root
    accepted in
    let h : c.args.root < c.args.used = ok.root-used in
    let small : c.args.used ≤ 4096 = checked-used c.args.t.now c.args.rs.now c.args.p.now
    c.args.used c.args.root ok in
    record {
      root_value = accepted;
      counted = λ a k. c.in_ok-check_counted.ensures.counted refl a (omega (arith, k, h));
      root_in_bounds = omega (
        arith,
        h,
        c.requires.used_in_bounds_2 small,
      );
    }

pub returns-in_err-check_counted : goal.returns-in_err-check_counted
returns-in_err-check_counted c =
    let q = err_from_is_err_and c.from_residual.result c.from_residual.ensures.1 in
    rw (q.1, q.2) (way-refused c.args.t.now c.args.rs.now c.args.p.now c.args.used c.args.root _ (sym c.in_err-check_counted.ensures.value))
