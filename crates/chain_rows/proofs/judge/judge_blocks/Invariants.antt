use Rattle.std.proofs.Common.{◌*◌, length, min}
use Rattle.chain_rows.specs.Classes.{Classed}
use Rattle.chain_rows.proofs.judge.judge_blocks.Given as goal

abbrev pub invariant-loop-block : goal.invariant-loop-block
invariant-loop-block l =
    Classed l.records l.pool l.columns l.values l.nulls l.root.0 l.classes (min (64 * l.block) (length l.nulls))
