use Rattle.std.proofs.Common.{◌≡◌, ℕ, ◌≤◌, cond, length}
use Rattle.checking.specs.Columns.{bit}
use Rattle.masks.proofs.Blocks.{KeptBelow}
use Rattle.masks.proofs.Operands.{KeysTo}
use Rattle.chain_rows.proofs.judge.write_classes.Given as goal

abbrev pub invariant-loop-i : goal.invariant-loop-i
invariant-loop-i l =
    (l.i ≤ l.rows) × (length l.classes ≡ length l.initial.classes) × KeysTo (λ (j : ℕ). cond (bit l.m.truths j) 2 (cond (bit
    l.m.unknowns j) 1 0)) l.classes l.base l.i × KeptBelow l.initial.classes l.classes l.base
