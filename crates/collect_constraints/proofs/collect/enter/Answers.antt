use Rattle.collect_constraints.proofs.Collecting.{entered_at}
use Rattle.collect_constraints.proofs.collect.enter.Goals as goal

pub returns : goal.returns
returns c =
    record { by_index = (λ l E. entered_at _ _ _ l _ _ _ E c.requires.0 c.requires.1 c.slot-x.ensures c.bump-next.ensures.value); upper_bound = c.bump-next.ensures.upper_bound }
