use Rattle.records.proofs.Laws.{flags}
use Rattle.records.specs.Shape.{known_type_in}
use Rattle.value_types.proofs.known_type.Goals as goal

pub returns-then-ty-ge1 : goal.returns-then-ty-ge1
unfolding known_type_in
returns-then-ty-ge1 c = search flags

pub returns-else-ty-ge1 : goal.returns-else-ty-ge1
unfolding known_type_in
returns-else-ty-ge1 c = search flags

pub returns-then-ty-ge1-2 : goal.returns-then-ty-ge1-2
unfolding known_type_in
returns-then-ty-ge1-2 c = search flags

pub returns-else-ty-ge1-2 : goal.returns-else-ty-ge1-2
unfolding known_type_in
returns-else-ty-ge1-2 c = search flags
