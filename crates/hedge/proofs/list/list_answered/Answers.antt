use Rattle.std.proofs.lemmas.Result.{err_from_is_err_and}
use Rattle.checking.specs.Answer.{answered}
use mathlib.Core.Path.{ap}
use mathlib.Core.Path.{sym, ◌∙◌}
use Prim.Native.Nat.{◌<◌, ◌≤◌}
use native.Mathlib.Omega.{arith}
use Rattle.checking.proofs.Accepted.{checked, checked-used, accepted-root}
use Rattle.hedge.proofs.Answers.{screen_refused, refused-bytes, screen_accepted, accepted-bytes}
use Rattle.hedge.proofs.list.list_answered.Goals as goal

pub overflow_cast-root : goal.overflow_cast-root
overflow_cast-root c =
    let h : c.args.root < 4096 = accepted-root c.args.table.now c.args.records.now c.args.pool.now c.args.used c.args.root (sym c.requires.answer_value ∙ ap answered c.in_ok-answer.was) in
    omega arith

pub offset_bounds-trees-root : goal.offset_bounds-trees-root
offset_bounds-trees-root c =
    let h : c.args.root < 4096 = accepted-root c.args.table.now c.args.records.now c.args.pool.now c.args.used c.args.root (sym c.requires.answer_value ∙ ap answered c.in_ok-answer.was) in
    omega arith

pub bounds-trees-root : goal.bounds-trees-root
bounds-trees-root c =
    let ok = checked c.args.table.now c.args.records.now c.args.pool.now c.args.used c.args.root (sym c.requires.answer_value ∙ ap answered c.in_ok-answer.was) in
    let small : c.args.used ≤ 4096 = checked-used c.args.table.now c.args.records.now c.args.pool.now c.args.used c.args.root ok in
    let h : c.args.root < c.args.used = ok.root-used in
    omega (arith, c.requires.used_in_bounds small)

pub list_checked-requires : goal.list_checked-requires
list_checked-requires c =
    let ok = checked c.args.table.now c.args.records.now c.args.pool.now c.args.used c.args.root (sym c.requires.answer_value ∙ ap answered c.in_ok-answer.was) in
    record { checked = ok; tree_value = c.requires.counted (ap answered c.in_ok-answer.was) c.args.root ok.root-used; in_bounds = c.requires.in_bounds }

pub returns-in_err-answer : goal.returns-in_err-answer
returns-in_err-answer c =
    let q = err_from_is_err_and c.from_residual.result c.from_residual.ensures.1 in
    let e = sym c.requires.answer_value ∙ ap answered c.in_err-answer.was in
    rw (q.1, q.2) record { value = screen_refused c.args.table.now c.args.records.now c.args.pool.now c.args.used c.args.root c.args.values.now c.args.nulls.now c.args.list.now c.args.tally _ e; list_after = refused-bytes c.args.table.now c.args.records.now c.args.pool.now c.args.used c.args.root c.args.values.now c.args.nulls.now c.args.list.now c.args.tally _ e }

pub returns : goal.returns
returns c =
    let e = sym c.requires.answer_value ∙ ap answered c.in_ok-answer.was in
    record {
      value = screen_accepted c.args.table.now c.args.records.now c.args.pool.now c.args.used c.args.root c.args.values.now c.args.nulls.now c.args.list.now c.args.tally _ e
          c.list_checked.ensures.value;
      list_after = accepted-bytes c.args.table.now c.args.records.now c.args.pool.now c.args.used c.args.root c.args.values.now c.args.nulls.now c.args.list.now
          c.args.tally _ _ e c.list_checked.ensures.value c.list_checked.ensures.list_after;
    }
