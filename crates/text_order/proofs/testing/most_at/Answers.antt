use Rattle.records.proofs.Laws.{flags}
use Rattle.text_order.specs.Starts.{most_at}
use Rattle.text_order.proofs.testing.most_at.Goals as goal

pub returns-then-size-s-lt16 : goal.returns-then-size-s-lt16
unfolding most_at
returns-then-size-s-lt16 c = search flags

pub returns-else-size-s-lt16 : goal.returns-else-size-s-lt16
unfolding most_at
returns-else-size-s-lt16 c = search flags
