use native.Mathlib.Omega.{arith}
use lib.ListN.{get_or}
use Rattle.record_check.proofs.Filling.{filled_more}
use Rattle.numbered_screen.specs.Numbered.{number_type}
use Rattle.numbered_screen.proofs.number_table.Goals as goal

pub loop-c-preserved : goal.loop-c-preserved
loop-c-preserved c =
    filled_more (λ k. number_type (get_or c.args.t.now k 0)) c.loop-c.table c.loop-c.c _ (omega arith) c.loop-c.invariant c.number_type.ensures
