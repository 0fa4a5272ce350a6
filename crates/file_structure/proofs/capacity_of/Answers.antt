use Rattle.records.proofs.Laws.{flags}
use Rattle.file_blocks.specs.Format.{capacity}
use Rattle.file_structure.proofs.capacity_of.Goals as goal

pub returns-then-kind-eq1 : goal.returns-then-kind-eq1
unfolding capacity
returns-then-kind-eq1 c = search flags

pub returns-then-kind-eq2 : goal.returns-then-kind-eq2
unfolding capacity
returns-then-kind-eq2 c = search flags

pub returns-then-kind-eq3 : goal.returns-then-kind-eq3
unfolding capacity
returns-then-kind-eq3 c = search flags

pub returns-then-kind-eq5 : goal.returns-then-kind-eq5
unfolding capacity
returns-then-kind-eq5 c = search flags

pub returns : goal.returns
unfolding capacity
returns c = search flags
