use Rattle.std.proofs.Common.{arith, length-set}
use Rattle.chain_rows.proofs.RowChecks.{limits_none, limits_more, limits_done}
use Rattle.chain_rows.proofs.fitting.fill_limits.Goals as goal

pub loop-c-init : goal.loop-c-init
loop-c-init c = limits_none _ _

pub bounds-limits-c-in-loop-c : goal.bounds-limits-c-in-loop-c
bounds-limits-c-in-loop-c c = simp length-set (omega arith)

pub loop-c-preserved : goal.loop-c-preserved
loop-c-preserved c =
    limits_more _ _ _ _ _ (omega arith) (omega arith) (simp length-set (omega arith)) c.limit_bias.ensures c.limit_mask.ensures c.loop-c.invariant

pub returns : goal.returns
returns c = limits_done _ _ _ _ (omega arith) c.loop-c.invariant
