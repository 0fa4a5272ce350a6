use mathlib.Core.Path.{◌≡◌}
use Prim.Native.Nat.{ℕ, ◌-◌, ◌≤◌}
use lib.ListN.{length}
use Rattle.three_valued.specs.declared.logic.Truth.{Truth}
use Rattle.ranked_chain.specs.Chunks.{RowTruths, ClassesOf}
use Rattle.row_chunks.proofs.judge_parts.Given as goal

abbrev pub invariant-loop-base : goal.invariant-loop-base
invariant-loop-base l =
    (l.base ≤ length l.nulls) × (length l.classes ≡ length l.initial.classes) × (length l.block ≡ 65536) × ((f : ℕ → Truth) →
    RowTruths l.table l.codes l.values l.nulls l.records l.pool l.root.0 f → ClassesOf f l.classes l.base) × (length l.truths ≡
    length l.initial.truths) × (length l.unknowns ≡ length l.initial.unknowns) × (length l.keys ≡ length l.initial.keys)

abbrev pub decreases-loop-base : goal.decreases-loop-base
decreases-loop-base l =
    length l.nulls - l.base
