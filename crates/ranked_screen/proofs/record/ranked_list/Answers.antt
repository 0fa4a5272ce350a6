use Rattle.records.proofs.Laws.{flags}
use Rattle.ranked_screen.proofs.record.ranked_list.Goals as goal

-- `ranked_list` meets its contract. Assumes nothing.
pub returns-then-ty-eq4 : goal.returns-then-ty-eq4
returns-then-ty-eq4 c = search flags

pub returns : goal.returns
returns c = search flags
