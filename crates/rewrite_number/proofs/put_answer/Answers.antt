use mathlib.Core.Path.{refl}
use Rattle.rewrite_number.proofs.put_answer.Goals as goal

-- the clauses by their names
named : {A0 A1 A2 A3 A4 : Type 0} → A0 × (A1 × (A2 × (A3 × A4))) → record { number : A0; root : A1; used : A2; length : A3; passes : A4 }
named p = record { number = p.0; root = p.1.0; used = p.1.1.0; length = p.1.1.1.0; passes = p.1.1.1.1 }

pub returns-in-Refused : goal.returns-in-Refused
returns-in-Refused c = named (rw c.in-Refused.is (refl, (refl, (refl, (refl, refl)))))

pub returns-in-Unchanged : goal.returns-in-Unchanged
returns-in-Unchanged c = named (rw c.in-Unchanged.is (refl, (refl, (refl, (refl, refl)))))

pub returns-in-NothingPasses : goal.returns-in-NothingPasses
returns-in-NothingPasses c = named (rw c.in-NothingPasses.is (refl, (refl, (refl, (refl, refl)))))

pub returns-in-Rewritten : goal.returns-in-Rewritten
returns-in-Rewritten c = named (rw c.in-Rewritten.is (refl, (refl, (refl, (refl, refl)))))
