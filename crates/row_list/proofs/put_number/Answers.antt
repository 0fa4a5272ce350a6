use lib.ListN.{length-set}
use mathlib.Core.Path.{refl}
use native.Mathlib.Omega.{arith}
use borrow.Author.Tests.{ne_eqb, eq-eqb}
use Rattle.row_list.proofs.Numbers.{two_bytes}
use Rattle.row_list.proofs.put_number.Goals as goal

-- the clauses by their names
named : {A0 A1 : Type 0} → A0 × A1 → record { value : A0; list_after : A1 }
named p = record { value = p.0; list_after = p.1 }

pub returns-then-class-ne2 : goal.returns-then-class-ne2
returns-then-class-ne2 c = named (rw (ne_eqb _ _ c.if-class-ne2.true) (omega arith, refl))

pub bounds-list-at-2 : goal.bounds-list-at-2
bounds-list-at-2 c = simp length-set (omega arith)

pub returns : goal.returns
returns c =
    named (rw (eq-eqb _ _ c.if-class-ne2.false) (refl, two_bytes c.args.list.now _ _ _ c.requires.at_in_bounds))
