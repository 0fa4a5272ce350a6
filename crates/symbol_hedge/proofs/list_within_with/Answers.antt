use mathlib.Core.Path.{sym, refl}
use Rattle.std.proofs.lemmas.Result.{err_from_is_err_and}
use Prim.Native.Nat.{◌<◌, ◌≤◌}
use native.Mathlib.Omega.{arith}
use Rattle.checking.proofs.Accepted.{checked-in, checked-used_in}
use Rattle.symbol_screens.specs.Rewriting.{lent}
use Rattle.symbol_hedge.proofs.HedgeAnswers.{screen_refused, refused-bytes, screen_accepted, accepted-bytes}
use Rattle.symbol_hedge.proofs.list_within_with.Goals as goal

pub overflow_cast-used : goal.overflow_cast-used
overflow_cast-used c =
    let ok = checked-in (lent c.args.text.now) c.args.table.now c.args.records.now c.args.pool.now c.args.used c.args.root (sym c.in_ok-check_lent_counted.ensures.value) in
    let small : c.args.used ≤ 4096 = checked-used_in (lent c.args.text.now) c.args.table.now c.args.records.now c.args.pool.now c.args.used c.args.root ok in
    let h : c.args.root < c.args.used = ok.root-used in
    omega (arith, small)

pub overflow_cast-root : goal.overflow_cast-root
overflow_cast-root c =
    let ok = checked-in (lent c.args.text.now) c.args.table.now c.args.records.now c.args.pool.now c.args.used c.args.root (sym c.in_ok-check_lent_counted.ensures.value) in
    let small : c.args.used ≤ 4096 = checked-used_in (lent c.args.text.now) c.args.table.now c.args.records.now c.args.pool.now c.args.used c.args.root ok in
    let h : c.args.root < c.args.used = ok.root-used in
    omega (arith, small, h)

pub offset_bounds-trees-root : goal.offset_bounds-trees-root
offset_bounds-trees-root c =
    let ok = checked-in (lent c.args.text.now) c.args.table.now c.args.records.now c.args.pool.now c.args.used c.args.root (sym c.in_ok-check_lent_counted.ensures.value) in
    let small : c.args.used ≤ 4096 = checked-used_in (lent c.args.text.now) c.args.table.now c.args.records.now c.args.pool.now c.args.used c.args.root ok in
    let h : c.args.root < c.args.used = ok.root-used in
    omega (arith, small, h)

pub bounds-trees-root : goal.bounds-trees-root
bounds-trees-root c =
    let ok = checked-in (lent c.args.text.now) c.args.table.now c.args.records.now c.args.pool.now c.args.used c.args.root (sym c.in_ok-check_lent_counted.ensures.value) in
    let small : c.args.used ≤ 4096 = checked-used_in (lent c.args.text.now) c.args.table.now c.args.records.now c.args.pool.now c.args.used c.args.root ok in
    let h : c.args.root < c.args.used = ok.root-used in
    omega (arith, small, h, c.requires.used_in_bounds_2 small)

pub list_checked_with-requires : goal.list_checked_with-requires
list_checked_with-requires c =
    let ok = checked-in (lent c.args.text.now) c.args.table.now c.args.records.now c.args.pool.now c.args.used c.args.root (sym c.in_ok-check_lent_counted.ensures.value) in
    let small : c.args.used ≤ 4096 = checked-used_in (lent c.args.text.now) c.args.table.now c.args.records.now c.args.pool.now c.args.used c.args.root ok in
    let h : c.args.root < c.args.used = ok.root-used in
    record { checked_in = ok; tree_value = c.in_ok-check_lent_counted.ensures.counted refl c.args.root h; in_bounds = c.requires.in_bounds; used_in_bounds = c.requires.used_in_bounds_3 small }

pub returns-in_err-check_lent_counted : goal.returns-in_err-check_lent_counted
returns-in_err-check_lent_counted c =
    let q = err_from_is_err_and c.from_residual.result c.from_residual.ensures.1 in
    let e = sym c.in_err-check_lent_counted.ensures.value in
    rw (q.1, q.2) record {
      value = screen_refused c.args.text.now c.args.table.now c.args.records.now c.args.pool.now
          c.args.used c.args.root c.args.values.now c.args.nulls.now c.args.list.now c.args.tally _ e;
      list_after = refused-bytes c.args.text.now c.args.table.now c.args.records.now c.args.pool.now c.args.used c.args.root c.args.values.now c.args.nulls.now c.args.list.now c.args.tally _ e;
    }

pub returns : goal.returns
returns c =
    let e = sym c.in_ok-check_lent_counted.ensures.value in
    record {
      value = screen_accepted c.args.text.now c.args.table.now c.args.records.now c.args.pool.now c.args.used c.args.root c.args.values.now c.args.nulls.now c.args.list.now
          c.args.tally _ e c.list_checked_with.ensures.value;
      list_after = accepted-bytes c.args.text.now c.args.table.now c.args.records.now c.args.pool.now c.args.used c.args.root c.args.values.now c.args.nulls.now c.args.list.now c.args.tally _ _ e c.list_checked_with.ensures.value
          c.list_checked_with.ensures.list_after;
    }
