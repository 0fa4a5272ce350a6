use mathlib.Core.Path.{sym, ◌∙◌}
use Prim.Native.Nat.{◌<◌, ◌≤◌}
use native.Mathlib.Omega.{arith}
use Rattle.checking.proofs.Accepted.{checked, checked-used}
use Rattle.row_test.proofs.Answers.{checking-refused, checking-accepted}
use Rattle.row_test.proofs.test.test_within.Goals as goal

pub returns-in-Err : goal.returns-in-Err
returns-in-Err c = (
  c.check_sized-fault.ensures.stands (omega arith),
  checking-refused _ _ _ _ _ _ _ _ (sym c.check_sized-fault.ensures.result_value ∙ sym c.in-Err.ensures),
)

pub overflow_cast-root : goal.overflow_cast-root
overflow_cast-root c =
    let accepted = sym c.check_sized-fault.ensures.result_value ∙ sym c.in-Ok.ensures in
    let ok = checked c.args.table.now c.args.records.now c.args.pool.now c.args.used c.args.root accepted in
    let small : c.args.used ≤ 4096 = checked-used c.args.table.now c.args.records.now c.args.pool.now c.args.used c.args.root ok in
    let h : c.args.root < c.args.used = ok.root-used in
    omega (arith, small, h)

pub offset_bounds-trees-root : goal.offset_bounds-trees-root
offset_bounds-trees-root c =
    let accepted = sym c.check_sized-fault.ensures.result_value ∙ sym c.in-Ok.ensures in
    let ok = checked c.args.table.now c.args.records.now c.args.pool.now c.args.used c.args.root accepted in
    let small : c.args.used ≤ 4096 = checked-used c.args.table.now c.args.records.now c.args.pool.now c.args.used c.args.root ok in
    let h : c.args.root < c.args.used = ok.root-used in
    omega (arith, small, h)

pub bounds-trees-root : goal.bounds-trees-root
bounds-trees-root c =
    let accepted = sym c.check_sized-fault.ensures.result_value ∙ sym c.in-Ok.ensures in
    let ok = checked c.args.table.now c.args.records.now c.args.pool.now c.args.used c.args.root accepted in
    let small : c.args.used ≤ 4096 = checked-used c.args.table.now c.args.records.now c.args.pool.now c.args.used c.args.root ok in
    let h : c.args.root < c.args.used = ok.root-used in
    omega (arith, small, h, c.requires.used_in_bounds_2 small)

pub test_checked-requires : goal.test_checked-requires
test_checked-requires c =
    let accepted = sym c.check_sized-fault.ensures.result_value ∙ sym c.in-Ok.ensures in
    let ok = checked c.args.table.now c.args.records.now c.args.pool.now c.args.used c.args.root accepted in
    record { checked = ok; tree_value = c.check_sized-fault.ensures.counted (sym c.in-Ok.ensures) c.args.root ok.root-used }

pub returns-in-Ok : goal.returns-in-Ok
returns-in-Ok c = (
  c.check_sized-fault.ensures.stands (omega arith),
  checking-accepted _ _ _ _ _ _ _ (sym c.check_sized-fault.ensures.result_value ∙ sym c.in-Ok.ensures) _ c.test_checked.ensures,
)
