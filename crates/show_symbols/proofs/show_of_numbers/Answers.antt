use mathlib.Core.Path.{sym, refl, ◌∙◌}
use Rattle.refusal.proofs.Numbers.{number-positive}
use Prim.Native.Nat.{◌≤◌}
use native.Mathlib.Omega.{arith}
use lib.ListN.{length, take}
use lib.Seq.{length-take-le}
use Rattle.show_symbols.proofs.Ends.{end_refused, few-columns, end-told}
use Rattle.show_symbols.proofs.show_of_numbers.Goals as goal

-- the clauses by their names
named : {A0 A1 A2 A3 A4 : Type 0} → A0 × (A1 × (A2 × (A3 × A4))) → record { answer : A0; listed : A1; row : A2; nulls : A3; promise : A4 }
named p = record { answer = p.0; listed = p.1.0; row = p.1.1.0; nulls = p.1.1.1.0; promise = p.1.1.1.1 }

pub returns-in-Err : goal.returns-in-Err
returns-in-Err c =
    named (end_refused c.args.text.now c.args.table.now c.args.records.now c.args.pool.now c.args.used c.args.root _ _ _ (c.number.ensures ∙ c.in-Err.ensures.refusal) (λ z. number-positive _ (sym c.number.ensures ∙ z)))

pub slice_bounds-show_of_screen-end : goal.slice_bounds-show_of_screen-end
slice_bounds-show_of_screen-end c =
    let h : length c.args.table.now ≤ 64 = few-columns c.args.text.now c.args.table.now c.args.records.now c.args.pool.now c.args.used c.args.root c.in-Ok.ensures.refusal in
    omega (arith, h, c.requires.columns, c.plain_numbers.auto.table)

pub slice_bounds-show_of_screen-end-in-Ok : goal.slice_bounds-show_of_screen-end-in-Ok
slice_bounds-show_of_screen-end-in-Ok c =
    let h : length c.args.table.now ≤ 64 = few-columns c.args.text.now c.args.table.now c.args.records.now c.args.pool.now c.args.used c.args.root c.in-Ok.ensures.refusal in
    let b : length c.args.table.now ≤ length c.plain_numbers.new.table = omega (
      arith,
      h,
      c.requires.columns,
      c.plain_numbers.auto.table,
    ) in
    sym (length-take-le (length c.args.table.now) c.plain_numbers.new.table b)

pub returns-in-Ok : goal.returns-in-Ok
returns-in-Ok c =
    named (end-told c.args.text.now c.args.table.now c.args.records.now c.args.pool.now c.args.used c.args.root (take (length c.args.table.now) c.plain_numbers.new.table) c.plain_numbers.new.records (c.in-Ok.ensures.numbers refl) c.in-Ok.ensures.refusal _ _ _ _ _ c.show_of_screen.ensures.answer c.show_of_screen.ensures.listed
    c.show_of_screen.ensures.row c.show_of_screen.ensures.nulls c.show_of_screen.ensures.promise)
