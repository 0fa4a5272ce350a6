use Rattle.row_ranks.specs.RowRanks.{RowRanks}
use Rattle.row_ranks.proofs.row.row_ranks.Given as goal

abbrev pub invariant-loop-c : goal.invariant-loop-c
invariant-loop-c l = RowRanks l.table l.codes l.row l.nulls l.c l.out
