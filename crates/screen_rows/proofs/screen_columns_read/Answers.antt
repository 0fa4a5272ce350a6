use native.Mathlib.Omega.{arith}
use mathlib.Core.Path.{◌≡◌, refl, sym, ◌∙◌, subst, ap}
use Rattle.checking.specs.ReadAnswer.{columns_answered}
use mathlib.Core.Bool.{true}
use Rattle.screen_rows.specs.Answers.{columns_number}
use Rattle.screen_rows.specs.Listed.{columns_listed}
use Rattle.screen_rows.proofs.Listed.{columns-listed}
use Rattle.screen_rows.proofs.Columns.{columns-refused, columns-found}
use Rattle.checking.proofs.Bits.{word-reaches}
use Rattle.screen_rows.proofs.screen_columns_read.Goals as goal

-- the clauses by their names
named : {A0 A1 A2 A3 A4 : Type 0} → A0 × (A1 × (A2 × (A3 × A4))) → record { answer : A0; listed : A1; word : A2; ones : A3; promise : A4 }
named p = record { answer = p.0; listed = p.1.0; word = p.1.1.0; ones = p.1.1.1.0; promise = p.1.1.1.1 }

pub returns-in-Err : goal.returns-in-Err
returns-in-Err c =
    let e = sym c.columns_read_with.ensures ∙ ap columns_answered c.in-Err.is in
    let l = subst (λ a. columns_listed (columns_number a) ≡ true) e (columns-listed _ _ _ _ _ _) in
    named (rw (c.number.ensures, e) (refl, (l, (refl, (refl, λ q. absurd (omega (arith, (columns-refused _ _ _ _ _ _ _ e).1, q)))))))

pub returns-in-Ok : goal.returns-in-Ok
returns-in-Ok c =
    let e = sym c.columns_read_with.ensures ∙ ap columns_answered c.in-Ok.is in
    let f = columns-found _ _ _ _ _ _ _ _ e in
    let l = subst (λ a. columns_listed (columns_number a) ≡ true) e (columns-listed _ _ _ _ _ _) in
    named (rw e (refl, (l, (refl, (refl, λ q. ((λ k h. rw (← f.0) (word-reaches _ _ k h)), sym f.1))))))
