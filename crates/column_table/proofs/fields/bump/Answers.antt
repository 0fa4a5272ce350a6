use Rattle.records.proofs.Laws.{flags}
use native.Mathlib.Omega.{arith}
use Rattle.column_table.proofs.fields.bump.Goals as goal

pub returns-then-held : goal.returns-then-held
returns-then-held c = record { value = search flags; upper_bound = omega arith }

pub returns : goal.returns
returns c = record { value = search flags; upper_bound = omega arith }
