use Rattle.records.proofs.Laws.{flags}
use Rattle.file_blocks.specs.Format.{place}
use Rattle.file_structure.proofs.place_of.Goals as goal

pub returns-then-kind-eq5 : goal.returns-then-kind-eq5
unfolding place
returns-then-kind-eq5 c = search flags

pub returns-then-kind-eq4 : goal.returns-then-kind-eq4
unfolding place
returns-then-kind-eq4 c = search flags

pub returns : goal.returns
unfolding place
returns c = search flags
