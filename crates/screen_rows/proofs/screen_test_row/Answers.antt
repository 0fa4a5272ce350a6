use mathlib.Core.Path.{◌≡◌, refl, sym, ◌∙◌, subst, ap}
use Rattle.row_test.specs.Answer.{row_answered}
use mathlib.Core.Bool.{true}
use Rattle.screen_rows.specs.Answers.{row_number}
use Rattle.screen_rows.specs.Listed.{row_listed}
use Rattle.screen_rows.proofs.Listed.{row_listed_lem}
use Rattle.screen_rows.proofs.screen_test_row.Goals as goal

-- the clauses by their names
named : {A0 A1 : Type 0} → A0 × A1 → record { answer : A0; listed : A1 }
named p = record { answer = p.0; listed = p.1 }

pub returns-in-Err : goal.returns-in-Err
returns-in-Err c =
    let e = sym c.test_row_with.ensures ∙ ap row_answered c.in-Err.is in
    record { answer = rw (c.number.ensures, e) refl; listed = rw c.number.ensures (subst (λ a. row_listed (row_number a) ≡ true) e (row_listed_lem _ _ _ _ _ _ _ _)) }

pub returns-in-Ok : goal.returns-in-Ok
returns-in-Ok c =
    let e = sym c.test_row_with.ensures ∙ ap row_answered c.in-Ok.is in
    named (rw c.truth_number.ensures
    (rw e refl, subst (λ a. row_listed (row_number a) ≡ true) e (row_listed_lem _ _ _ _ _ _ _ _)))
