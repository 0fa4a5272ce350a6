use borrow.Author.Rules.{rules}
use Rattle.hedge.proofs.list.hedge_list.Goals as goal

pub list_answered-requires : goal.list_answered-requires
list_answered-requires c =
    record { answer_value = c.check_counted-first.ensures.value; counted = c.check_counted-first.ensures.counted; used_in_bounds = λ h. search rules; in_bounds = search rules }

pub list_answered-requires-2 : goal.list_answered-requires-2
list_answered-requires-2 c =
    record { answer_value = c.check_counted-answer.ensures.value; counted = c.check_counted-answer.ensures.counted; used_in_bounds = λ h. search rules; in_bounds = search rules }
