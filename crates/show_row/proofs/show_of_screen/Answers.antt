use mathlib.Core.Path.{ap, ◌∙◌}
use Rattle.show_row.specs.ShowAnswer.{row_found, show_answered}
use Rattle.show_row.proofs.Called.{show-all}
use Rattle.show_row.proofs.show_of_screen.Goals as goal

-- the clauses by their names
named : {A0 A1 A2 A3 A4 : Type 0} → A0 × (A1 × (A2 × (A3 × A4))) → record { answer : A0; listed : A1; row : A2; nulls : A3; promise : A4 }
named p = record { answer = p.0; listed = p.1.0; row = p.1.1.0; nulls = p.1.1.1.0; promise = p.1.1.1.1 }

pub returns-in-Err : goal.returns-in-Err
returns-in-Err c =
    rw c.number.ensures (named (show-all c.args.table.now c.args.records.now c.args.pool.now c.args.used c.args.root c.args.row.now _ c.args.nulls.now _ _ (ap show_answered c.in-Err.is) c.show_row.ensures.value c.show_row.ensures.row_after c.show_row.ensures.low_shown))

pub returns-in-None : goal.returns-in-None
returns-in-None c =
    named (show-all c.args.table.now c.args.records.now c.args.pool.now c.args.used c.args.root c.args.row.now _ c.args.nulls.now _ _ (ap show_answered c.in-Ok.is ∙ ap row_found c.in-None.is) c.show_row.ensures.value
    c.show_row.ensures.row_after c.show_row.ensures.low_shown)

pub returns-in-Some : goal.returns-in-Some
returns-in-Some c =
    named (show-all c.args.table.now c.args.records.now c.args.pool.now c.args.used c.args.root c.args.row.now _ c.args.nulls.now _ _ (ap show_answered c.in-Ok.is ∙ ap row_found c.in-Some.is) c.show_row.ensures.value c.show_row.ensures.row_after c.show_row.ensures.low_shown)
