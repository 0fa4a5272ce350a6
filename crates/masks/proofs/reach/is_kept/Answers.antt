use Rattle.records.proofs.Laws.{flags}
use Rattle.masks.specs.Block.{is_kept}
use Rattle.masks.proofs.reach.is_kept.Goals as goal

pub returns-then-f-eq4 : goal.returns-then-f-eq4
unfolding is_kept
returns-then-f-eq4 c = search flags

pub returns-then-f-eq9 : goal.returns-then-f-eq9
unfolding is_kept
returns-then-f-eq9 c = search flags

pub returns : goal.returns
unfolding is_kept
returns c = search flags
