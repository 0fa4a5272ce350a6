use mathlib.Core.Path.{sym, ◌∙◌, ap}
use Rattle.slowest.specs.SlowestAnswer.{slowest_answered}
use Rattle.screen.proofs.Slowest.{slowest-ensures, written-table, written-records}
use Rattle.screen.proofs.screen_slowest.Goals as goal

-- the clauses by their names
named : {A0 A1 A2 A3 A4 A5 A6 : Type 0} → A0 × (A1 × (A2 × (A3 × (A4 × (A5 × A6))))) → record { answer : A0; listed : A1; root : A2; used : A3; table : A4; records : A5; promise : A6 }
named p = record { answer = p.0; listed = p.1.0; root = p.1.1.0; used = p.1.1.1.0; table = p.1.1.1.1.0; records = p.1.1.1.1.1.0; promise = p.1.1.1.1.1.1 }

pub returns-in-Err : goal.returns-in-Err
returns-in-Err c =
    rw c.number.ensures (named (slowest-ensures c.args.columns c.args.table.now c.args.records.now _ (sym c.build_slowest.ensures.answer ∙ ap slowest_answered c.in-Err.is) _ _ (written-table _ _ _ _ _ (ap slowest_answered c.in-Err.is) c.build_slowest.ensures.table)
    (written-records _ _ _ _ _ (ap slowest_answered c.in-Err.is) c.build_slowest.ensures.records) c.args.root.now c.args.used.now))

pub returns-in-Ok : goal.returns-in-Ok
returns-in-Ok c =
    named (slowest-ensures c.args.columns c.args.table.now c.args.records.now _ (sym c.build_slowest.ensures.answer ∙ ap slowest_answered c.in-Ok.is) _ _ (written-table _ _ _ _ _ (ap slowest_answered c.in-Ok.is) c.build_slowest.ensures.table)
    (written-records _ _ _ _ _ (ap slowest_answered c.in-Ok.is) c.build_slowest.ensures.records) c.args.root.now c.args.used.now)
