use Rattle.std.proofs.Common.{◌≡◌, ℕ, ◌≤◌, cond, length}
use Rattle.checking.specs.Columns.{bit}
use Rattle.masks.proofs.Blocks.{KeptBelow}
use Rattle.masks.proofs.Operands.{KeysTo}
use Rattle.row_blocks.proofs.operand.fill_keys.Given as goal

abbrev pub invariant-loop-i : goal.invariant-loop-i
invariant-loop-i l =
    (l.i ≤ 64) × (length l.keys ≡ length l.initial.keys) × KeysTo (λ (j : ℕ). cond (bit l.word j) l.on l.off) l.keys l.at l.i × KeptBelow
    l.initial.keys l.keys l.at
