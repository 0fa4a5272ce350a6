use Rattle.records.proofs.Laws.{flags}
use Rattle.checksum.specs.Checksum.{ones_add}
use native.Mathlib.Omega.{arith}
use Rattle.checksum_bench.proofs.ones_add.Goals as goal

pub returns-then-sum-gt65535 : goal.returns-then-sum-gt65535
unfolding ones_add
returns-then-sum-gt65535 c = record { value = search flags; upper_bound = omega arith }

pub returns : goal.returns
unfolding ones_add
returns c = record { value = search flags; upper_bound = omega arith }
