use mathlib.Core.Path.{ap}
use Rattle.files.specs.LoadAnswer.{load_answered}
use native.Mathlib.Omega.{arith}
use Rattle.screen_files.proofs.Filed.{load-all}
use Rattle.screen_files.proofs.screen_load.Goals as goal

-- the clauses by their names
named : {A0 A1 A2 A3 A4 A5 A6 A7 A8 A9 A10 A11 : Type 0} → A0 × (A1 × (A2 × (A3 × (A4 × (A5 × (A6 × (A7 × (A8 × (A9 × (A10 × A11)))))))))) → record { answer : A0; listed : A1; root : A2; columns : A3; used : A4; values : A5; bytes : A6; table : A7; records : A8; pool : A9; text : A10; promise : A11 }
named p = record { answer = p.0; listed = p.1.0; root = p.1.1.0; columns = p.1.1.1.0; used = p.1.1.1.1.0; values = p.1.1.1.1.1.0; bytes = p.1.1.1.1.1.1.0; table = p.1.1.1.1.1.1.1.0; records = p.1.1.1.1.1.1.1.1.0; pool = p.1.1.1.1.1.1.1.1.1.0; text = p.1.1.1.1.1.1.1.1.1.1.0; promise = p.1.1.1.1.1.1.1.1.1.1.1 }

pub returns-in-Err : goal.returns-in-Err
returns-in-Err c =
    rw c.number.ensures (named (load-all c.args.file.now c.args.table.now c.args.records.now c.args.pool.now c.args.text.now _ _ _ _ (λ i. omega (arith, c.type_inv.file i)) c.args.root.now c.args.columns.now c.args.used.now c.args.values.now c.args.bytes.now _ _ (ap load_answered c.in-Err.is)
    c.load_screen.ensures.answer c.load_screen.ensures.table c.load_screen.ensures.records c.load_screen.ensures.pool c.load_screen.ensures.text))

pub returns-in-Ok : goal.returns-in-Ok
returns-in-Ok c =
    named (load-all c.args.file.now c.args.table.now c.args.records.now c.args.pool.now c.args.text.now _ _ _ _ (λ i. omega (arith, c.type_inv.file i)) c.args.root.now c.args.columns.now c.args.used.now c.args.values.now c.args.bytes.now _ _ (ap load_answered c.in-Ok.is)
    c.load_screen.ensures.answer c.load_screen.ensures.table c.load_screen.ensures.records c.load_screen.ensures.pool c.load_screen.ensures.text)
