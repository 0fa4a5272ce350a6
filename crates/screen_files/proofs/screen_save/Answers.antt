use mathlib.Core.Path.{ap}
use Rattle.files.specs.SaveAnswer.{save_answered}
use Rattle.screen_files.proofs.Filed.{save_all}
use Rattle.screen_files.proofs.screen_save.Goals as goal

-- the clauses by their names
named : {A0 A1 A2 A3 A4 : Type 0} → A0 × (A1 × (A2 × (A3 × A4))) → record { answer : A0; listed : A1; size : A2; bytes : A3; promise : A4 }
named p = record { answer = p.0; listed = p.1.0; size = p.1.1.0; bytes = p.1.1.1.0; promise = p.1.1.1.1 }

pub returns-in-Err : goal.returns-in-Err
returns-in-Err c =
    rw c.number.ensures (named (save_all c.args.table.now c.args.records.now c.args.pool.now c.args.text.now c.args.used c.args.root c.args.file.now _ c.args.size.now _ _ (ap save_answered c.in-Err.is) c.save_screen.ensures.answer c.save_screen.ensures.bytes))

pub returns-in-Ok : goal.returns-in-Ok
returns-in-Ok c =
    named (save_all c.args.table.now c.args.records.now c.args.pool.now c.args.text.now c.args.used c.args.root c.args.file.now _ c.args.size.now _ _ (ap save_answered c.in-Ok.is) c.save_screen.ensures.answer c.save_screen.ensures.bytes)
