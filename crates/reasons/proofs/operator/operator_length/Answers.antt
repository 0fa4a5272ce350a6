use native.Mathlib.Omega.{arith}
use mathlib.Core.Path.{refl}
use Rattle.reasons.specs.Text.{operator_name}
use Rattle.reasons.proofs.operator.operator_length.Goals as goal

-- the clauses by their names
named : {A0 A1 : Type 0} → A0 × A1 → record { value : A0; upper_bound : A1 }
named p = record { value = p.0; upper_bound = p.1 }

pub returns-in-Eq : goal.returns-in-Eq
unfolding operator_name
returns-in-Eq c = named (rw c.in-Eq.is (refl, omega arith))

pub returns-in-NotEq : goal.returns-in-NotEq
unfolding operator_name
returns-in-NotEq c = named (rw c.in-NotEq.is (refl, omega arith))

pub returns-in-Lt : goal.returns-in-Lt
unfolding operator_name
returns-in-Lt c = named (rw c.in-Lt.is (refl, omega arith))

pub returns-in-LtEq : goal.returns-in-LtEq
unfolding operator_name
returns-in-LtEq c = named (rw c.in-LtEq.is (refl, omega arith))

pub returns-in-Gt : goal.returns-in-Gt
unfolding operator_name
returns-in-Gt c = named (rw c.in-Gt.is (refl, omega arith))

pub returns-in-GtEq : goal.returns-in-GtEq
unfolding operator_name
returns-in-GtEq c = named (rw c.in-GtEq.is (refl, omega arith))
