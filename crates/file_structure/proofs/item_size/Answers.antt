use Rattle.records.proofs.Laws.{flags}
use Rattle.file_blocks.specs.Format.{item_size}
use native.Mathlib.Omega.{arith}
use Rattle.file_structure.proofs.item_size.Goals as goal

pub returns-then-kind-eq1 : goal.returns-then-kind-eq1
unfolding item_size
returns-then-kind-eq1 c = record { value = search flags; upper_bound = omega arith }

pub returns-then-kind-eq2 : goal.returns-then-kind-eq2
unfolding item_size
returns-then-kind-eq2 c = record { value = search flags; upper_bound = omega arith }

pub returns-then-kind-eq5 : goal.returns-then-kind-eq5
unfolding item_size
returns-then-kind-eq5 c = record { value = search flags; upper_bound = omega arith }

pub returns : goal.returns
unfolding item_size
returns c = record { value = search flags; upper_bound = omega arith }
