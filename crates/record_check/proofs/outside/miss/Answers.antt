use Rattle.records.proofs.Laws.{flags}
use native.Mathlib.Omega.{arith}
use Rattle.record_check.proofs.outside.miss.Goals as goal

pub returns-then-in_type : goal.returns-then-in_type
returns-then-in_type c = record { value = search (flags, ← c.in_type.ensures); upper_bound = omega arith }

pub returns-else-in_type : goal.returns-else-in_type
returns-else-in_type c = record { value = search (flags, ← c.in_type.ensures); upper_bound = omega arith }
