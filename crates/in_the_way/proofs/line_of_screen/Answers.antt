use mathlib.Core.Path.{ap, ◌∙◌}
use Rattle.judge_lines.specs.WayAnswer.{way_found, way_answered}
use Rattle.in_the_way.proofs.Called.{way_all}
use Rattle.in_the_way.proofs.line_of_screen.Goals as goal

-- the clauses by their names
named : {A0 A1 A2 A3 : Type 0} → A0 × (A1 × (A2 × A3)) → record { answer : A0; listed : A1; line : A2; promise : A3 }
named p = record { answer = p.0; listed = p.1.0; line = p.1.1.0; promise = p.1.1.1 }

pub returns-in-Err : goal.returns-in-Err
returns-in-Err c =
    rw c.number.ensures (named (way_all c.args.table.now c.args.records.now c.args.pool.now c.args.used c.args.root c.args.line.now _ _ (ap way_answered c.in-Err.is) c.line_in_the_way.ensures))

pub returns-in-Passes : goal.returns-in-Passes
returns-in-Passes c =
    named (way_all c.args.table.now c.args.records.now c.args.pool.now c.args.used c.args.root c.args.line.now _ _ (ap way_answered c.in-Ok.is ∙ ap way_found c.in-Passes.is) c.line_in_the_way.ensures)

pub returns-in-Line : goal.returns-in-Line
returns-in-Line c =
    named (way_all c.args.table.now c.args.records.now c.args.pool.now c.args.used c.args.root c.args.line.now _ _ (ap way_answered c.in-Ok.is ∙ ap way_found c.in-Line.is) c.line_in_the_way.ensures)

pub returns-in-NoLine : goal.returns-in-NoLine
returns-in-NoLine c =
    named (way_all c.args.table.now c.args.records.now c.args.pool.now c.args.used c.args.root c.args.line.now _ _ (ap way_answered c.in-Ok.is ∙ ap way_found c.in-NoLine.is) c.line_in_the_way.ensures)
