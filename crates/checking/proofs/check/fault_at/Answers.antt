use native.Mathlib.Omega.{arith}
use borrow.Author.Tests.{ne_eqb}
use Rattle.checking.proofs.check.fault_at.Goals as goal

pub returns-then-ty-eq4 : goal.returns-then-ty-eq4
returns-then-ty-eq4 c = record { result_value = omega (arith, c.requires); ty_value = λ h. absurd (omega (arith, h)) }

pub returns-else-ty-eq4 : goal.returns-else-ty-eq4
returns-else-ty-eq4 c = record { result_value = omega (arith, c.requires); ty_value = λ h. ne_eqb _ _ c.if-ty-eq4.false }
