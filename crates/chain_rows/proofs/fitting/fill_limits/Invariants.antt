use Rattle.chain_rows.specs.Limits.{Limits}
use Rattle.chain_rows.proofs.fitting.fill_limits.Given as goal

abbrev pub invariant-loop-c : goal.invariant-loop-c
invariant-loop-c l = Limits l.table l.limits l.c
