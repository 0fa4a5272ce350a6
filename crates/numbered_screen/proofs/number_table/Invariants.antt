use lib.ListN.{get_or}
use Rattle.record_check.proofs.Filling.{Filled}
use Rattle.numbered_screen.specs.Numbered.{number_type}
use Rattle.numbered_screen.proofs.number_table.Given as goal

abbrev pub invariant-loop-c : goal.invariant-loop-c
invariant-loop-c l = Filled (λ k. number_type (get_or l.t k 0)) l.table l.c
