use native.Mathlib.Omega.{arith}
use Rattle.check_symbols.proofs.Ends.{end-as_ever}
use Rattle.check_symbols.proofs.screen_check_row.Goals as goal

-- the clauses by their names
named : {A0 A1 : Type 0} → A0 × A1 → record { answer : A0; listed : A1 }
named p = record { answer = p.0; listed = p.1 }

pub returns : goal.returns
returns c =
    named (end-as_ever c.args.text.now c.args.table.now c.args.records.now c.args.pool.now c.args.used c.args.root c.args.row.now c.args.nulls (c.has_symbols.ensures c.if-has_symbols.false)
    (omega (arith, c.if-text-gt8192.false)) _ c.check_of_screen.ensures.answer c.check_of_screen.ensures.listed)
