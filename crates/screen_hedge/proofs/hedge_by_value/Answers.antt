use mathlib.Core.Path.{refl, sym, ◌∙◌, ap}
use Rattle.hedge.specs.Answer.{hedge_answered}
use Rattle.screen_hedge.proofs.hedge_by_value.Goals as goal

pub returns-in-Err : goal.returns-in-Err
returns-in-Err c =
    let e = sym c.hedge_list_with.ensures.value ∙ ap hedge_answered c.in-Err.is in
    rw e (c.number.ensures, refl, refl, refl, c.hedge_list_with.ensures.list_after, refl)

pub returns-in-Ok : goal.returns-in-Ok
returns-in-Ok c =
    let e = sym c.hedge_list_with.ensures.value ∙ ap hedge_answered c.in-Ok.is in
    rw e (refl, refl, refl, refl, c.hedge_list_with.ensures.list_after, refl)
