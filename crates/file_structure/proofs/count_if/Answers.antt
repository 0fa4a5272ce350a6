use Rattle.records.proofs.Laws.{flags}
use Rattle.file_structure.specs.Read.{count_if, kind_of}
use native.Mathlib.Omega.{arith}
use Rattle.file_structure.proofs.count_if.Goals as goal

pub returns-then-b-kind : goal.returns-then-b-kind
unfolding count_if kind_of
returns-then-b-kind c =
    record { value = search (flags, c.count_in.ensures); upper_bound = omega (arith, c.requires.b_bound, c.count_in.ensures) }

pub returns : goal.returns
unfolding count_if kind_of
returns c = record { value = search flags; upper_bound = omega arith }
