use Rattle.checking.specs.Answer.{answered}
use mathlib.Core.Path.{ap}
use mathlib.Core.Path.{◌≡◌, refl, sym, ◌∙◌, subst}
use mathlib.Core.Bool.{true}
use Rattle.screen_rows.specs.Answers.{check_number}
use Rattle.screen_rows.specs.Listed.{check_listed}
use Rattle.screen_rows.proofs.Listed.{check-listed}
use Rattle.screen_rows.proofs.screen_check.Goals as goal

pub returns-in-Err : goal.returns-in-Err
returns-in-Err c =
    let e = sym c.check_lent.ensures ∙ ap answered c.in-Err.is in
    record { answer = rw (c.number.ensures, e) refl; listed = rw c.number.ensures (subst (λ a. check_listed (check_number a) ≡ true) e (check-listed _ _ _ _ _ _)) }

pub returns-in-Ok : goal.returns-in-Ok
returns-in-Ok c =
    let e = sym c.check_lent.ensures ∙ ap answered c.in-Ok.is in
    record { answer = rw e refl; listed = subst (λ a. check_listed (check_number a) ≡ true) e (check-listed _ _ _ _ _ _) }
