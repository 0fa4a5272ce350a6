use native.Mathlib.Omega.{arith}
use Rattle.show_symbols.proofs.Ends.{end-as_ever}
use Rattle.show_symbols.proofs.screen_show_row.Goals as goal

-- the clauses by their names
named : {A0 A1 A2 A3 A4 : Type 0} → A0 × (A1 × (A2 × (A3 × A4))) → record { answer : A0; listed : A1; row : A2; nulls : A3; promise : A4 }
named p = record { answer = p.0; listed = p.1.0; row = p.1.1.0; nulls = p.1.1.1.0; promise = p.1.1.1.1 }

pub returns : goal.returns
returns c =
    named (end-as_ever c.args.text.now c.args.table.now c.args.records.now c.args.pool.now c.args.used c.args.root (c.has_symbols.ensures c.if-has_symbols.false) (omega (arith, c.if-text-gt8192.false)) _ c.args.row.now _ _ _ c.show_of_screen.ensures.answer c.show_of_screen.ensures.listed c.show_of_screen.ensures.row
    c.show_of_screen.ensures.nulls c.show_of_screen.ensures.promise)
