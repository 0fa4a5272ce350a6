use Rattle.row_blocks.proofs.Working.{Worked}
use Rattle.row_blocks.proofs.rows.block_records.Given as goal

abbrev pub invariant-loop-n : goal.invariant-loop-n
invariant-loop-n l = Worked l.records l.pool l.columns l.values l.nulls l.base l.rows l.marks l.truths l.unknowns l.n
