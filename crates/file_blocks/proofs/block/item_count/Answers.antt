use Rattle.records.proofs.Laws.{flags}
use Rattle.file_blocks.specs.Format.{item_size}
use native.Mathlib.Nat.{div-one}
use Rattle.file_blocks.proofs.block.item_count.Goals as goal

pub returns-then-kind-eq1 : goal.returns-then-kind-eq1
unfolding item_size
returns-then-kind-eq1 c = search (flags, div-one)

pub returns-then-kind-eq2 : goal.returns-then-kind-eq2
unfolding item_size
returns-then-kind-eq2 c = search flags

pub returns-then-kind-eq5 : goal.returns-then-kind-eq5
unfolding item_size
returns-then-kind-eq5 c = search (flags, div-one)

pub returns : goal.returns
unfolding item_size
returns c = search flags
