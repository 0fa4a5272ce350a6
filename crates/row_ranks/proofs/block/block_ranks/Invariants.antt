use mathlib.Core.Path.{◌≡◌}
use Prim.Native.Nat.{◌-◌, ◌≤◌}
use lib.ListN.{length}
use Rattle.row_ranks.specs.RowRanks.{BlockRanks}
use Rattle.row_ranks.proofs.block.block_ranks.Given as goal

abbrev pub invariant-loop-i : goal.invariant-loop-i
invariant-loop-i l =
    (l.i ≤ l.count) × (length l.block ≡ length l.initial.block) × BlockRanks l.table l.codes l.values l.nulls l.base l.i l.block
