use Rattle.records.proofs.Laws.{flags}
use Rattle.records.specs.Shape.{in_type_in}
use Rattle.value_types.proofs.in_type.Goals as goal

pub returns-then-ty-eq1 : goal.returns-then-ty-eq1
unfolding in_type_in
returns-then-ty-eq1 c = search flags

pub returns-then-v-lt2147483648 : goal.returns-then-v-lt2147483648
unfolding in_type_in
returns-then-v-lt2147483648 c = search flags

pub returns-else-v-lt2147483648 : goal.returns-else-v-lt2147483648
unfolding in_type_in
returns-else-v-lt2147483648 c = search flags

pub returns-then-text-eq0 : goal.returns-then-text-eq0
unfolding in_type_in
returns-then-text-eq0 c = search flags

pub returns-then-ty-eq4 : goal.returns-then-ty-eq4
unfolding in_type_in
returns-then-ty-eq4 c = search (flags, ← c.in_pool.ensures)

pub returns : goal.returns
unfolding in_type_in
returns c = search flags
