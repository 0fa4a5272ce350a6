use mathlib.Core.Path.{refl}
use Rattle.column_table.proofs.words.bound_line.Goals as goal

-- the clauses by their names
named : {A0 A1 : Type 0} → A0 × A1 → record { value : A0; line_fits : A1 }
named p = record { value = p.0; line_fits = p.1 }

pub returns-in-Absent : goal.returns-in-Absent
returns-in-Absent c = named (rw c.in-Absent.is (refl, tt))

pub returns-in-Open : goal.returns-in-Open
returns-in-Open c = named (rw c.in-Open.is (c.limit_lines.ensures.value, c.limit_lines.ensures.line_bound))

pub returns-in-Closed : goal.returns-in-Closed
returns-in-Closed c =
    named (rw c.in-Closed.is (c.limit_lines-in-Closed.ensures.value, c.limit_lines-in-Closed.ensures.line_bound))
