use mathlib.Core.Path.{sym, refl}
use Rattle.std.proofs.lemmas.Result.{err_from_is_err_and}
use Prim.Native.Nat.{◌<◌, ◌≤◌}
use native.Mathlib.Omega.{arith}
use Rattle.checking.proofs.Accepted.{checked-in, checked-used_in}
use Rattle.symbol_screens.specs.Rewriting.{lent}
use Rattle.symbol_rows.specs.RowTestWith.{test_row_answer_with}
use Rattle.symbol_row_test.proofs.test_within.Goals as goal

pub overflow_cast-used : goal.overflow_cast-used
overflow_cast-used c =
    let ok = checked-in (lent c.args.text.now) _ _ _ _ _ (sym c.in_ok-check_lent_counted.ensures.value) in
    let small : c.args.used ≤ 4096 = checked-used_in _ _ _ _ _ _ ok in
    omega (arith, small)

pub overflow_cast-root : goal.overflow_cast-root
overflow_cast-root c =
    let ok = checked-in (lent c.args.text.now) _ _ _ _ _ (sym c.in_ok-check_lent_counted.ensures.value) in
    let small : c.args.used ≤ 4096 = checked-used_in _ _ _ _ _ _ ok in
    let h : c.args.root < c.args.used = ok.root-used in
    omega (arith, small, h)

pub offset_bounds-trees-root : goal.offset_bounds-trees-root
offset_bounds-trees-root c =
    let ok = checked-in (lent c.args.text.now) _ _ _ _ _ (sym c.in_ok-check_lent_counted.ensures.value) in
    let small : c.args.used ≤ 4096 = checked-used_in _ _ _ _ _ _ ok in
    let h : c.args.root < c.args.used = ok.root-used in
    omega (arith, small, h)

pub bounds-trees-root : goal.bounds-trees-root
bounds-trees-root c =
    let ok = checked-in (lent c.args.text.now) _ _ _ _ _ (sym c.in_ok-check_lent_counted.ensures.value) in
    let small : c.args.used ≤ 4096 = checked-used_in _ _ _ _ _ _ ok in
    let h : c.args.root < c.args.used = ok.root-used in
    omega (arith, small, h, c.requires.used_in_bounds_2 small)

pub test_accepted-requires : goal.test_accepted-requires
test_accepted-requires c =
    let ok = checked-in (lent c.args.text.now) _ _ _ _ _ (sym c.in_ok-check_lent_counted.ensures.value) in
    let h : c.args.root < c.args.used = ok.root-used in
    record { checked_in = ok; tree_value = c.in_ok-check_lent_counted.ensures.counted refl c.args.root h }

pub returns-in_err-check_lent_counted : goal.returns-in_err-check_lent_counted
unfolding test_row_answer_with
returns-in_err-check_lent_counted c =
    let p = err_from_is_err_and c.from_residual.result c.from_residual.ensures.1 in
    rw (p.1, p.2, ← c.in_err-check_lent_counted.ensures.value)

pub returns : goal.returns
unfolding test_row_answer_with
returns c = rw (← c.in_ok-check_lent_counted.ensures.value) c.test_accepted.ensures
