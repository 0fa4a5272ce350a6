use native.Mathlib.Omega.{arith}
use Rattle.way_symbols.proofs.Ends.{end-as_ever}
use Rattle.way_symbols.proofs.screen_line_in_the_way.Goals as goal

-- the clauses by their names
named : {A0 A1 A2 A3 : Type 0} → A0 × (A1 × (A2 × A3)) → record { answer : A0; listed : A1; line : A2; promise : A3 }
named p = record { answer = p.0; listed = p.1.0; line = p.1.1.0; promise = p.1.1.1 }

pub returns : goal.returns
returns c =
    named (end-as_ever c.args.text.now c.args.table.now c.args.records.now c.args.pool.now c.args.used c.args.root (c.has_symbols.ensures c.if-has_symbols.false) (omega arith) _ _ _
    c.line_of_screen.ensures.answer c.line_of_screen.ensures.listed c.line_of_screen.ensures.line
    c.line_of_screen.ensures.promise)
